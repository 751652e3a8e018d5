-- What is left of a server's talk, packet by packet.
use Rattle.std.proofs.Common.{◌≡◌, ℕ, suc, Bool, true, false, cond, List, [], ◌∷◌, Some, None, Ok, Err, Option, Result, sym, refl, ap, ◌∙◌}
use Rattle.std.proofs.lemmas.Bool.{false≢true}
use Rattle.slices.specs.declared.name.Name.{Name}
use Rattle.choices.specs.Choices.{first_offered}
use Rattle.packetline.specs.Packets.{Pkt, flush, delimiter, response_end, line, whole, front}
use Rattle.packetline.specs.Metadata.{trim_both, pair_of}
use Rattle.packetline.specs.Text.{text_of}
use Rattle.host.specs.declared.fault.Fault.TheVariants.{Closed, Broken, Other}
use Rattle.host.specs.declared.fault.LineFault.{LineFault}
use Rattle.host.specs.declared.fault.LineFault.TheVariants.{Host, Packet, Marker, Text}
use Rattle.host.specs.Worlds.{waiting_of}
use Rattle.host.specs.Talk.{Wire, Got, got, lost, then, send_all, heard, hear, read, wanted, read_content, texted as talk_texted, text_in as talk_text_in, read_text}
use Rattle.process.specs.Gather.{Turn, goes, stops, turned, gather}
use Rattle.process.proofs.Gathers.{leaves_read, leaves_read_content, leaves_read_text, gather_on}
use Rattle.requests.specs.Stored.{Pair, Request, and_pair, has_space}
use Rattle.requests.specs.Requests.{begun, command_in, meta_then, with_meta, meta_step}
use Rattle.handshake.specs.Judged.{version_in, if_right}
use Rattle.handshake.specs.Servers.{hailed, with_version, versions_turn, versions_step, picked, shared_step, shares, shared_then, shares_then, answers, answers_then, versions_then, pick_then, meets}
use Rattle.mirror.specs.Reflecting.{no_blobs, reflection, lists, opening, content_step, reflected, answered_then, answers_on, met_then}
use Rattle.mirror.specs.Stages.{Stage, hailing, offering, naming, idle, asking, hearing, silent, Move, moves, taken, texted, text_in, content_in, hailed_to, picked_to, offered_to, named_to, commanded_to, asked_to, content_to, hears, rest_of, leaves, GoesOn}

then_then : {A B C : Type 0} (g : Got A) (f : A → Wire → Got B) (h : B → Wire → Got C) → then (then g f) h ≡ then g (λ x u. then (f x u) h)
then_then (got a v) f h = refl
then_then (lost x v) f h = refl

module _ (prefix : List ℕ) (names : List Name) (k : ℕ) where
  -- a move on a wire: its packets are sent, and the talk goes on
  abbrev Moved : Move → Wire → Wire
  Moved m u = leaves (then (send_all m.says u) (λ _ w. rest_of prefix names k m.to w))

  module _ (v : Wire) (p : Pkt) (bytes rest : List ℕ) (here : front (waiting_of v.end) ≡ whole p bytes rest) where
    abbrev after : Wire
    after = heard bytes rest v

    read_is : read v ≡ got p after
    read_is = ap (λ f. hear f v) here

    -- a talk that begins with a line of text, or with content
    text_line : (F : Got (Option (List ℕ)) → Wire) (m : Option (List ℕ) → Move) → ((f : LineFault) (u : Wire) → F (lost f u) ≡ u) → ((t : Option (List ℕ)) → F (got t after) ≡ Moved (m t) after)
        → (r : Result (List ℕ) ℕ) → F (talk_texted r after) ≡ Moved (taken (texted r) m) after
    text_line F m ends on (Ok t) = on (Some t)
    text_line F m ends on (Err n) = ends _ after

    text_cases : (F : Got (Option (List ℕ)) → Wire) (m : Option (List ℕ) → Move) → ((f : LineFault) (u : Wire) → F (lost f u) ≡ u) → ((t : Option (List ℕ)) → F (got t after) ≡ Moved (m t) after)
        → (x : Pkt) → F (then (wanted x after) talk_text_in) ≡ Moved (taken (text_in x) m) after
    text_cases F m ends on flush = on None
    text_cases F m ends on delimiter = ends Marker after
    text_cases F m ends on response_end = ends Marker after
    text_cases F m ends on (line l) = text_line F m ends on (text_of l)

    on_read_text : (F : Got (Option (List ℕ)) → Wire) (m : Option (List ℕ) → Move) → ((f : LineFault) (u : Wire) → F (lost f u) ≡ u) → ((t : Option (List ℕ)) → F (got t after) ≡ Moved (m t) after)
        → F (read_text v) ≡ Moved (taken (text_in p) m) after
    on_read_text F m ends on = ap (λ g. F (then (then g wanted) talk_text_in)) read_is ∙ text_cases F m ends on p

    content_cases : (F : Got (Option (List ℕ)) → Wire) (m : Option (List ℕ) → Move) → ((f : LineFault) (u : Wire) → F (lost f u) ≡ u) → ((t : Option (List ℕ)) → F (got t after) ≡ Moved (m t) after)
        → (x : Pkt) → F (wanted x after) ≡ Moved (taken (content_in x) m) after
    content_cases F m ends on flush = on None
    content_cases F m ends on delimiter = ends Marker after
    content_cases F m ends on response_end = ends Marker after
    content_cases F m ends on (line l) = on (Some l)

    on_read_content : (F : Got (Option (List ℕ)) → Wire) (m : Option (List ℕ) → Move) → ((f : LineFault) (u : Wire) → F (lost f u) ≡ u) → ((t : Option (List ℕ)) → F (got t after) ≡ Moved (m t) after)
        → F (read_content v) ≡ Moved (taken (content_in p) m) after
    on_read_content F m ends on = ap (λ g. F (then g wanted)) read_is ∙ content_cases F m ends on p

    abbrev choice : List ℕ → Option ℕ
    choice = first_offered (2 ∷ [])

    -- the welcome
    hailed_on : (r : Result (Unit {0}) ℕ)
        → leaves (then (if_right (versions_then prefix 16 choice names) r after) (if_right (met_then k))) ≡ Moved (hailed_to r) after
    hailed_on (Ok tt) = refl
    hailed_on (Err n) = refl

    from_hailing : leaves (rest_of prefix names k hailing v) ≡ Moved (hears prefix names hailing p) after
    from_hailing =
        on_read_text (λ g. leaves (then (then (then g (λ t u. got (hailed prefix t) u)) (if_right (versions_then prefix 16 choice names))) (if_right (met_then k))))
        (λ t. hailed_to (hailed prefix t)) (λ f u. refl) (λ t. hailed_on (hailed prefix t))

    -- the versions
    picked_on : (r : Result ℕ ℕ) → leaves (then (if_right (answers_then prefix names) r after) (if_right (met_then k))) ≡ Moved (picked_to prefix r) after
    picked_on (Ok n) = ap leaves (then_then (send_all (answers prefix n) after) (shared_then names n) (if_right (met_then k)))
    picked_on (Err n) = refl

    version_on : (r : Result (List ℕ) ℕ)
        → leaves (then (then (turned (gather read_text (versions_step 16)) (versions_turn r) after) (if_right (pick_then prefix choice names))) (if_right (met_then k)))
        ≡ Moved (offered_to prefix (versions_turn r)) after
    version_on (Ok vs) = refl
    version_on (Err n) = refl

    offered_on : (vs : List ℕ) (t : Option (List ℕ))
        → leaves (then (then (turned (gather read_text (versions_step 16)) (versions_step 16 vs t) after) (if_right (pick_then prefix choice names))) (if_right (met_then k)))
        ≡ Moved (offered_to prefix (versions_step 16 vs t)) after
    offered_on vs None = picked_on (picked (choice vs))
    offered_on vs (Some t) = version_on (with_version 16 vs (version_in (Some t)))

    from_offering : (vs : List ℕ) → leaves (rest_of prefix names k (offering vs) v) ≡ Moved (hears prefix names (offering vs) p) after
    from_offering vs =
        ap (λ g. leaves (then (then g (if_right (pick_then prefix choice names))) (if_right (met_then k)))) (gather_on read_text (versions_step 16) leaves_read_text vs v)
        ∙ on_read_text
        (λ g. leaves (then (then (then g (λ x u. turned (gather read_text (versions_step 16)) (versions_step 16 vs x) u)) (if_right (pick_then prefix choice names))) (if_right (met_then k))))
        (λ t. offered_to prefix (versions_step 16 vs t)) (λ f u. refl) (offered_on vs)

    -- the names
    named_on : (n : ℕ) (ks : List ℕ) (t : Option (List ℕ))
        → leaves (then (then (turned (gather read_text (shared_step names)) (shared_step names ks t) after) (shares_then names n)) (if_right (met_then k)))
        ≡ Moved (named_to names n (shared_step names ks t)) after
    named_on n ks None = ap leaves (then_then (send_all (shares names ks) after) (meets n ks) (if_right (met_then k)))
    named_on n ks (Some t) = refl

    from_naming : (n : ℕ) (ks : List ℕ) → leaves (rest_of prefix names k (naming n ks) v) ≡ Moved (hears prefix names (naming n ks) p) after
    from_naming n ks =
        ap (λ g. leaves (then (then g (shares_then names n)) (if_right (met_then k)))) (gather_on read_text (shared_step names) leaves_read_text ks v)
        ∙ on_read_text
        (λ g. leaves (then (then (then g (λ x u. turned (gather read_text (shared_step names)) (shared_step names ks x) u)) (shares_then names n)) (if_right (met_then k))))
        (λ t. named_to names n (shared_step names ks t)) (λ f u. refl) (named_on n ks)

    -- the command
    abbrev Begins : Got (Option (List ℕ)) → Wire
    Begins g = leaves (then (then (begun (command_in 8192) g) (meta_then 16 8192)) (if_right (answered_then (answers_on k))))

    unasked_on : (f : LineFault) (u : Wire) → Begins (lost f u) ≡ u
    unasked_on (Host Closed) u = refl
    unasked_on (Host Broken) u = refl
    unasked_on (Host Other) u = refl
    unasked_on (Packet e) u = refl
    unasked_on Marker u = refl
    unasked_on (Text e) u = refl

    commanded_on : (r : Result (Option (List ℕ)) ℕ) → leaves (then (meta_then 16 8192 r after) (if_right (answered_then (answers_on k)))) ≡ Moved (commanded_to r) after
    commanded_on (Ok (Some c)) = refl
    commanded_on (Ok None) = refl
    commanded_on (Err n) = refl

    from_idle : leaves (rest_of prefix names (suc k) idle v) ≡ Moved (hears prefix names idle p) after
    from_idle = on_read_text Begins (λ t. commanded_to (command_in 8192 t)) unasked_on (λ t. commanded_on (command_in 8192 t))

    -- the metadata
    abbrev Asks : Turn Request (Result (Option Request) ℕ) → Wire
    Asks t = leaves (then (turned (gather read (meta_step 16 8192)) t after) (if_right (answered_then (answers_on k))))

    space_on : (b : Bool) (q : Request) → Asks (cond b (goes q []) (stops (Err 7))) ≡ Moved (asked_to (cond b (goes q []) (stops (Err 7)))) after
    space_on true q = refl
    space_on false q = refl

    pair_on : (q : Request) (o : Option Pair) → Asks (with_meta 16 8192 q o) ≡ Moved (asked_to (with_meta 16 8192 q o)) after
    pair_on q None = refl
    pair_on q (Some x) = space_on (has_space 16 8192 q x) (and_pair q x)

    request_on : (b : Bool) (q : Request)
        → leaves (then (cond b (send_all no_blobs after) (reflected (opening q) after)) (λ _ u. answers_on k u)) ≡ Moved (cond b (moves no_blobs idle) (moves [] (hearing (opening q)))) after
    request_on true q = refl
    request_on false q = refl

    meta_on : (q : Request) (x : Pkt) → Asks (meta_step 16 8192 q x) ≡ Moved (asked_to (meta_step 16 8192 q x)) after
    meta_on q flush = request_on (lists q) q
    meta_on q delimiter = refl
    meta_on q response_end = refl
    meta_on q (line l) = pair_on q (pair_of (trim_both l))

    from_asking : (q : Request) → leaves (rest_of prefix names k (asking q) v) ≡ Moved (hears prefix names (asking q) p) after
    from_asking q =
        ap (λ g. leaves (then g (if_right (answered_then (answers_on k))))) (gather_on read (meta_step 16 8192) leaves_read q v)
        ∙ ap (λ g. leaves (then (then g (λ x u. turned (gather read (meta_step 16 8192)) (meta_step 16 8192 q x) u)) (if_right (answered_then (answers_on k))))) read_is
        ∙ meta_on q p

    -- the content
    content_on : (c : Option (List ℕ)) (t : Option (List ℕ))
        → leaves (then (then (turned (gather read_content content_step) (content_step c t) after) (λ d u. send_all (reflection d) u)) (λ _ u. answers_on k u))
        ≡ Moved (content_to (content_step c t)) after
    content_on c None = refl
    content_on c (Some l) = refl

    from_hearing : (c : Option (List ℕ)) → leaves (rest_of prefix names k (hearing c) v) ≡ Moved (hears prefix names (hearing c) p) after
    from_hearing c =
        ap (λ g. leaves (then (then g (λ d u. send_all (reflection d) u)) (λ _ u. answers_on k u))) (gather_on read_content content_step leaves_read_content c v)
        ∙ on_read_content
        (λ g. leaves (then (then (then g (λ x u. turned (gather read_content content_step) (content_step c x) u)) (λ d u. send_all (reflection d) u)) (λ _ u. answers_on k u)))
        (λ t. content_to (content_step c t)) (λ f u. refl) (content_on c)

pub goes_on : (prefix : List ℕ) (names : List Name) (s : Stage) (p : Pkt) → GoesOn prefix names s p
goes_on prefix names hailing p e k v bytes rest here = from_hailing prefix names k v p bytes rest here
goes_on prefix names (offering vs) p e k v bytes rest here = from_offering prefix names k v p bytes rest here vs
goes_on prefix names (naming n ks) p e k v bytes rest here = from_naming prefix names k v p bytes rest here n ks
goes_on prefix names idle p e k v bytes rest here = from_idle prefix names k v p bytes rest here
goes_on prefix names (asking q) p e k v bytes rest here = from_asking prefix names k v p bytes rest here q
goes_on prefix names (hearing c) p e k v bytes rest here = from_hearing prefix names k v p bytes rest here c
goes_on prefix names silent p e k v bytes rest here = absurd (false≢true (sym e))
