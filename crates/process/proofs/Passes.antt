-- What passes in a talk, as packets.
use Rattle.std.proofs.Common.{◌≡◌, ℕ, zero, suc, ◌+◌, ◌<◌, ◌≤◌, Bool, true, false, cond, leb, List, [], ◌∷◌, ◌++◌, length, Some, None, Ok, Err, Option, Result, sym, refl, ap, ◌∙◌, subst, arith}
use Rattle.std.proofs.lemmas.List.{append_assoc, append-nil, length-append, take-append-drop}
use Rattle.std.proofs.lemmas.Bool.{cond_both}
use Rattle.packetline.specs.declared.packet.Packet.{Packet}
use Rattle.packetline.specs.Packets.{header, payload_length, Pkt, flush, delimiter, response_end, line, packet, packets, Front, whole, bad, short, fronted, front, Decoded, and_more, decode, flushes_of}
use Rattle.packetline.specs.Text.{utf8, trim_end, text_of}
use Rattle.packetline.proofs.Decoding.{decode_more, shorter}
use Rattle.packetline.proofs.Exact.{reads_sent}
use Rattle.host.specs.declared.fault.Fault.{Fault}
use Rattle.host.specs.declared.fault.LineFault.{LineFault}
use Rattle.host.specs.Worlds.{waiting_of, process}
use Rattle.host.specs.Acts.{refusal_of}
use Rattle.host.specs.Talk.{Event, noted, bytes_sent, bytes_given, Areas, Wire, wire, Got, got, lost, then, ends, sent_by, send, send_all, hear, read, wanted, read_content, texted, text_in, read_text, Sight, Talks}
use Rattle.process.specs.Gather.{Turn, goes, stops, turned, gather_in, gather}
use Rattle.process.specs.Given.{ReadsAs}

-- Byte strings, one behind the other

abbrev decoded : List Pkt → List ℕ → Decoded
decoded ps l = record { packets = ps; left = l }

no_front : (f : Front) (bytes : List ℕ) (more : List ℕ → Decoded) → ((p : Pkt) (taken rest : List ℕ) → f ≡ whole p taken rest → ⊥) → and_more f bytes more ≡ decoded [] bytes
no_front (whole p taken rest) bytes more h = absurd (h p taken rest refl)
no_front (bad taken rest) bytes more h = refl
no_front short bytes more h = refl

-- where no whole packet stands first there is none
decode_none : (bytes : List ℕ) → ((p : Pkt) (taken rest : List ℕ) → front bytes ≡ whole p taken rest → ⊥) → decode bytes ≡ decoded [] bytes
decode_none bytes h = decode_more bytes ∙ no_front (front bytes) bytes decode h

decode_whole : (bytes : List ℕ) (p : Pkt) (taken rest : List ℕ) → front bytes ≡ whole p taken rest → decode bytes ≡ decoded (p ∷ (decode rest).packets) (decode rest).left
decode_whole bytes p taken rest e = decode_more bytes ∙ ap (λ f. and_more f bytes decode) e

pub decode_empty : decode [] ≡ decoded [] []
unfolding decode
decode_empty = refl

-- bytes that are packets to their end, and other bytes behind them
abbrev Appends : List ℕ → List ℕ → Type 0
Appends xs ys = (decode xs).left ≡ [] → decode (xs ++ ys) ≡ decoded ((decode xs).packets ++ (decode ys).packets) (decode ys).left

append_none : (xs ys : List ℕ) → decode xs ≡ decoded [] xs → Appends xs ys
append_none xs ys d l =
    let none : xs ≡ [] = sym (ap (λ (x : Decoded). x.left) d) ∙ l in
    ap (λ zs. decode (zs ++ ys)) none ∙ ap (λ (x : Decoded). decoded (x.packets ++ (decode ys).packets) (decode ys).left) (sym d)

append_front : (xs ys : List ℕ) (f : Front) → front xs ≡ f → ((rest : List ℕ) → length rest < length xs → Appends rest ys) → Appends xs ys
append_front xs ys (whole p taken rest) e on l =
    let o = (reads_sent xs).only p taken rest e in
    let d = decode_whole xs p taken rest e in
    let long : xs ++ ys ≡ taken ++ (rest ++ ys) = ap (λ zs. zs ++ ys) o.2 ∙ append_assoc taken rest ys in
    let first = (reads_sent (xs ++ ys)).all p taken (rest ++ ys) o.0 o.1 long in
    let more = on rest (shorter xs p taken rest e) (sym (ap (λ (x : Decoded). x.left) d) ∙ l) in
    decode_whole (xs ++ ys) p taken (rest ++ ys) first
    ∙ ap (λ (x : Decoded). decoded (p ∷ x.packets) x.left) more
    ∙ ap (λ (x : Decoded). decoded (x.packets ++ (decode ys).packets) (decode ys).left) (sym d)
append_front xs ys (bad taken rest) e on l = append_none xs ys (decode_more xs ∙ ap (λ f. and_more f xs decode) e) l
append_front xs ys short e on l = append_none xs ys (decode_more xs ∙ ap (λ f. and_more f xs decode) e) l

append_by : (k : ℕ) (xs ys : List ℕ) → length xs < k → Appends xs ys
append_by zero xs ys h = absurd (omega arith)
append_by (suc k) xs ys h = append_front xs ys (front xs) refl (λ rest less. append_by k rest ys (omega arith))

pub decode_append : (xs ys : List ℕ) (ps : List Pkt) → ReadsAs xs ps → decode (xs ++ ys) ≡ decoded (ps ++ (decode ys).packets) (decode ys).left
decode_append xs ys ps e =
    append_by (suc (length xs)) xs ys (omega arith) (ap (λ (x : Decoded). x.left) e)
    ∙ ap (λ (x : Decoded). decoded (x.packets ++ (decode ys).packets) (decode ys).left) e

pub packets_append : (ps qs : List Pkt) → packets (ps ++ qs) ≡ packets ps ++ packets qs
packets_append [] qs = refl
packets_append (p ∷ ps) qs = ap (λ xs. packet p ++ xs) (packets_append ps qs) ∙ sym (append_assoc (packet p) (packets ps) (packets qs))

-- one packet's bytes
one_packet : (ws : List ℕ) (p : Pkt) (b rest : List ℕ) → front ws ≡ whole p b rest → ReadsAs b (p ∷ [])
one_packet ws p b rest e =
    let o = (reads_sent ws).only p b rest e in
    let f = (reads_sent b).all p b [] o.0 o.1 (sym (append-nil b)) in
    decode_whole b p b [] f ∙ ap (λ (x : Decoded). decoded (p ∷ x.packets) x.left) decode_empty

-- four bytes that are no header are no packet alone either
abbrev pub PartedAt : List ℕ → Front → Type 0
PartedAt ws (whole p b rest) = Unit {0}
PartedAt ws (bad b rest) = ws ≡ b ++ rest
PartedAt ws short = Unit {0}

parted_by : (ws : List ℕ) (k : Result (Packet ℕ) ℕ) → PartedAt ws (fronted k ws)
parted_by ws (Err n) = sym (take-append-drop 4 ws)
parted_by ws (Ok k) = cond_both (leb (4 + payload_length k) (length ws)) _ _ (PartedAt ws) (λ _. tt) (λ _. tt)

pub parted_at : (ws : List ℕ) → PartedAt ws (front ws)
unfolding front
parted_at ws = cond_both (leb 4 (length ws)) _ _ (PartedAt ws) (λ _. parted_by ws (header ws)) (λ _. tt)

bad_alone : (ws b rest : List ℕ) → front ws ≡ bad b rest → (decode b).packets ≡ []
bad_alone ws b rest e =
    let parts : ws ≡ b ++ rest = subst (PartedAt ws) e (parted_at ws) in
    ap (λ (x : Decoded). x.packets)
    (decode_none b
    (λ p taken left f.
    let o = (reads_sent b).only p taken left f in
    let g = (reads_sent ws).all p taken (left ++ rest) o.0 o.1 (parts ∙ ap (λ xs. xs ++ rest) o.2 ∙ append_assoc taken left rest) in
    let z : ◌≡◌ {A = ℕ} 0 1 = cc in
    omega arith))

short_alone : (ws : List ℕ) → front ws ≡ short → (decode ws).packets ≡ []
short_alone ws e =
    ap (λ (x : Decoded). x.packets) (decode_none ws (λ p taken left f. let z : ◌≡◌ {A = ℕ} 0 1 = cc in omega arith))

-- Talks

-- since v these packets were given, to their end, and these were sent
pub record Since (v u : Wire) (gs ss : List Pkt) : Type 0 where
  pub bytes : List ℕ
  pub given : bytes_given u.events ≡ bytes_given v.events ++ bytes
  pub reads : ReadsAs bytes gs
  pub sent : bytes_sent u.events ≡ bytes_sent v.events ++ packets ss

-- the same where a fault ended it: less than a packet may have come behind them
pub record Until (v u : Wire) (gs ss : List Pkt) : Type 0 where
  pub bytes : List ℕ
  pub given : bytes_given u.events ≡ bytes_given v.events ++ bytes
  pub reads : (decode bytes).packets ≡ gs
  pub sent : bytes_sent u.events ≡ bytes_sent v.events ++ packets ss

-- what was given and sent and what was answered are in this relation
abbrev pub Passed : {A : Type 0} → (List Pkt → List Pkt → A → Type 0) → (List Pkt → List Pkt → Type 0) → Wire → Got A → Type 0
Passed P Q v (got a u) = (gs : List Pkt) × ((ss : List Pkt) × Since v u gs ss × P gs ss a)
Passed P Q v (lost f u) = (gs : List Pkt) × ((ss : List Pkt) × Until v u gs ss × Q gs ss)

pub record Passes {A : Type 0} (P : List Pkt → List Pkt → A → Type 0) (Q : List Pkt → List Pkt → Type 0) (v : Wire) (g : Got A) : Type 0 where
  pub by : Passed P Q v g

sent_then : (v u x : Wire) (ss ts : List Pkt) → bytes_sent u.events ≡ bytes_sent v.events ++ packets ss → bytes_sent x.events ≡ bytes_sent u.events ++ packets ts
    → bytes_sent x.events ≡ bytes_sent v.events ++ packets (ss ++ ts)
sent_then v u x ss ts e f =
    f ∙ ap (λ xs. xs ++ packets ts) e ∙ append_assoc (bytes_sent v.events) (packets ss) (packets ts) ∙ ap (λ xs. bytes_sent v.events ++ xs) (sym (packets_append ss ts))

module _ {B : Type 0} (P : List Pkt → List Pkt → B → Type 0) (Q : List Pkt → List Pkt → Type 0) where
  -- what passes after something has passed
  passed_after : (v u : Wire) (gs ss : List Pkt) → Since v u gs ss → (h : Got B) → Passed (λ hs ts b. P (gs ++ hs) (ss ++ ts) b) (λ hs ts. Q (gs ++ hs) (ss ++ ts)) u h → Passed P Q v h
  passed_after v u gs ss s (got b x) (hs, (ts, t, p)) = (
    gs ++ hs,
    (
      ss ++ ts,
      record {
        bytes = s.bytes ++ t.bytes;
        given = t.given ∙ ap (λ xs. xs ++ t.bytes) s.given ∙ append_assoc (bytes_given v.events) s.bytes t.bytes;
        reads = decode_append s.bytes t.bytes gs s.reads ∙ ap (λ (y : Decoded). decoded (gs ++ y.packets) y.left) t.reads;
        sent = sent_then v u x ss ts s.sent t.sent;
      },
      p,
    ),
  )
  passed_after v u gs ss s (lost f x) (hs, (ts, t, q)) = (
    gs ++ hs,
    (
      ss ++ ts,
      record {
        bytes = s.bytes ++ t.bytes;
        given = t.given ∙ ap (λ xs. xs ++ t.bytes) s.given ∙ append_assoc (bytes_given v.events) s.bytes t.bytes;
        reads = ap (λ (y : Decoded). y.packets) (decode_append s.bytes t.bytes gs s.reads) ∙ ap (λ ps. gs ++ ps) t.reads;
        sent = sent_then v u x ss ts s.sent t.sent;
      },
      q,
    ),
  )

  passed_then : {A : Type 0} (P₁ : List Pkt → List Pkt → A → Type 0) (Q₁ : List Pkt → List Pkt → Type 0) (k : A → Wire → Got B) (v : Wire) (g : Got A) → Passed P₁ Q₁ v g
      → ((gs ss : List Pkt) (a : A) (u : Wire) → P₁ gs ss a → Passes (λ hs ts b. P (gs ++ hs) (ss ++ ts) b) (λ hs ts. Q (gs ++ hs) (ss ++ ts)) u (k a u))
      → ((gs ss : List Pkt) → Q₁ gs ss → Q gs ss) → Passed P Q v (then g k)
  passed_then P₁ Q₁ k v (got a u) (gs, (ss, s, p)) on stop = passed_after v u gs ss s (k a u) (on gs ss a u p).by
  passed_then P₁ Q₁ k v (lost f u) (gs, (ss, s, q)) on stop = (gs, (ss, s, stop gs ss q))

  -- a relation that follows
  passed_so : (P₁ : List Pkt → List Pkt → B → Type 0) (Q₁ : List Pkt → List Pkt → Type 0) (v : Wire) (g : Got B) → Passed P₁ Q₁ v g
      → ((gs ss : List Pkt) (a : B) → P₁ gs ss a → P gs ss a) → ((gs ss : List Pkt) → Q₁ gs ss → Q gs ss) → Passed P Q v g
  passed_so P₁ Q₁ v (got a u) (gs, (ss, s, p)) f h = (gs, (ss, s, f gs ss a p))
  passed_so P₁ Q₁ v (lost x u) (gs, (ss, s, q)) f h = (gs, (ss, s, h gs ss q))

module _ {B : Type 0} {P : List Pkt → List Pkt → B → Type 0} {Q : List Pkt → List Pkt → Type 0} where
  passes_after : (v u : Wire) (gs ss : List Pkt) → Since v u gs ss → (h : Got B) → Passes (λ hs ts b. P (gs ++ hs) (ss ++ ts) b) (λ hs ts. Q (gs ++ hs) (ss ++ ts)) u h → Passes P Q v h
  passes_after v u gs ss s h t = record { by = passed_after P Q v u gs ss s h t.by }

  pub passes_then : {A : Type 0} {P₁ : List Pkt → List Pkt → A → Type 0} {Q₁ : List Pkt → List Pkt → Type 0} (k : A → Wire → Got B) (v : Wire) (g : Got A) → Passes P₁ Q₁ v g
      → ((gs ss : List Pkt) (a : A) (u : Wire) → P₁ gs ss a → Passes (λ hs ts b. P (gs ++ hs) (ss ++ ts) b) (λ hs ts. Q (gs ++ hs) (ss ++ ts)) u (k a u))
      → ((gs ss : List Pkt) → Q₁ gs ss → Q gs ss) → Passes P Q v (then g k)
  passes_then {P₁ = P₁} {Q₁ = Q₁} k v g t on stop = record { by = passed_then P Q P₁ Q₁ k v g t.by on stop }

  pub passes_so : {P₁ : List Pkt → List Pkt → B → Type 0} {Q₁ : List Pkt → List Pkt → Type 0} (v : Wire) (g : Got B) → Passes P₁ Q₁ v g
      → ((gs ss : List Pkt) (a : B) → P₁ gs ss a → P gs ss a) → ((gs ss : List Pkt) → Q₁ gs ss → Q gs ss) → Passes P Q v g
  passes_so {P₁ = P₁} {Q₁ = Q₁} v g t f h = record { by = passed_so P Q P₁ Q₁ v g t.by f h }

-- nothing passes
since_none : (v u : Wire) → bytes_given u.events ≡ bytes_given v.events → bytes_sent u.events ≡ bytes_sent v.events → Since v u [] []
since_none v u g s =
    record { bytes = []; given = g ∙ sym (append-nil (bytes_given v.events)); reads = decode_empty; sent = s ∙ sym (append-nil (bytes_sent v.events)) }

until_none : (v u : Wire) → bytes_given u.events ≡ bytes_given v.events → bytes_sent u.events ≡ bytes_sent v.events → Until v u [] []
until_none v u g s =
    record { bytes = []; given = g ∙ sym (append-nil (bytes_given v.events)); reads = ap (λ (x : Decoded). x.packets) decode_empty; sent = s ∙ sym (append-nil (bytes_sent v.events)) }

module _ {A : Type 0} {P : List Pkt → List Pkt → A → Type 0} {Q : List Pkt → List Pkt → Type 0} where
  pub passes_got : (a : A) (v : Wire) → P [] [] a → Passes P Q v (got a v)
  passes_got a v p = record { by = ([], ([], since_none v v refl refl, p)) }

  pub passes_lost : (f : LineFault) (v : Wire) → Q [] [] → Passes P Q v (lost f v)
  passes_lost f v q = record { by = ([], ([], until_none v v refl refl, q)) }

-- Sending

abbrev pub AllSent : {A : Type 0} → List Pkt → List Pkt → List Pkt → A → Type 0
AllSent ps gs ss a = (gs ≡ []) × (ss ≡ ps)

abbrev pub NoneGiven : List Pkt → List Pkt → Type 0
NoneGiven gs ss = gs ≡ []

-- some of the packets were sent, up to one that was refused
abbrev pub PartSent : List Pkt → List Pkt → List Pkt → Type 0
PartSent ps gs ss = (gs ≡ []) × ((x : Pkt) × ((rest : List Pkt) × (ps ≡ ss ++ x ∷ rest)))

abbrev Nothing : List Pkt → List Pkt → Type 0
Nothing gs ss = (gs ≡ []) × (ss ≡ [])

sent_by_passes : (p : Pkt) (v : Wire) (r : Result (Unit {0}) Fault) → Passes (AllSent (p ∷ [])) Nothing v (sent_by r (packet p) v)
sent_by_passes p v (Ok u) = record {
  by = (
    [],
    (
      p ∷ [],
      record {
        bytes = [];
        given = sym (append-nil (bytes_given v.events));
        reads = decode_empty;
        sent = ap (λ xs. bytes_sent v.events ++ xs) (sym (append-nil (packet p)));
      },
      (refl, refl),
    ),
  );
}
sent_by_passes p v (Err f) = record { by = ([], ([], until_none v _ refl refl, (refl, refl))) }

send_passes : (p : Pkt) (v : Wire) → Passes (AllSent (p ∷ [])) Nothing v (send p v)
send_passes p v = sent_by_passes p v (refusal_of v.end (length (packet p)))

pub part_passes : (ps : List Pkt) (v : Wire) → Passes (AllSent ps) (PartSent ps) v (send_all ps v)
part_passes [] v = passes_got tt v (refl, refl)
part_passes (p ∷ ps) v =
    passes_then (λ _ u. send_all ps u) v (send p v) (send_passes p v)
    (λ gs ss a u h.
    passes_so u (send_all ps u) (part_passes ps u)
    (λ hs ts b k. (ap (λ xs. xs ++ hs) h.0 ∙ k.0, ap (λ xs. xs ++ ts) h.1 ∙ ap (λ xs. p ∷ xs) k.1))
    (λ hs ts k. (ap (λ xs. xs ++ hs) h.0 ∙ k.0, (k.1.0, (k.1.1.0, ap (λ xs. p ∷ xs) k.1.1.1 ∙ ap (λ xs. (xs ++ ts) ++ k.1.0 ∷ k.1.1.0) (sym h.1))))))
    (λ gs ss h. (h.0, (p, (ps, ap (λ xs. xs ++ p ∷ ps) (sym h.1)))))

pub send_all_passes : (ps : List Pkt) (v : Wire) → Passes (AllSent ps) NoneGiven v (send_all ps v)
send_all_passes ps v = passes_so v (send_all ps v) (part_passes ps v) (λ gs ss a h. h) (λ gs ss h. h.0)

-- what was sent before a refused packet is not all
packet_long : (p : Pkt) → 4 ≤ length (packet p)
packet_long flush = omega arith
packet_long delimiter = omega arith
packet_long response_end = omega arith
packet_long (line l) = omega arith

pub part_less : (ps ss : List Pkt) (x : Pkt) (rest : List Pkt) → ps ≡ ss ++ x ∷ rest → packets ss ≡ packets ps → ⊥
part_less ps ss x rest e h =
    let whole : packets ss ≡ packets ss ++ (packet x ++ packets rest) = h ∙ ap packets e ∙ packets_append ss (x ∷ rest) in
    let a = ap length whole in
    let b = length-append (packets ss) (packet x ++ packets rest) in
    let c = length-append (packet x) (packets rest) in
    let d = packet_long x in
    omega (arith, a, b, c, d)

-- Reading

-- nothing was sent, and no flush was given
abbrev pub NoFlush : List Pkt → List Pkt → Type 0
NoFlush gs ss = (flushes_of gs ≡ 0) × (ss ≡ [])

abbrev pub OneRead : List Pkt → List Pkt → Pkt → Type 0
OneRead gs ss p = (gs ≡ p ∷ []) × (ss ≡ [])

abbrev pub NoneRead : List Pkt → List Pkt → Type 0
NoneRead gs ss = (gs ≡ []) × (ss ≡ [])

hear_passes : (ws : List ℕ) (v : Wire) (f : Front) → front ws ≡ f → waiting_of v.end ≡ ws → Passes OneRead NoneRead v (hear f v)
hear_passes ws v (whole p b rest) e here =
    record { by = (p ∷ [], ([], record { bytes = b; given = refl; reads = one_packet ws p b rest e; sent = sym (append-nil (bytes_sent v.events)) }, (refl, refl))) }
hear_passes ws v (bad b rest) e here =
    record { by = ([], ([], record { bytes = b; given = refl; reads = bad_alone ws b rest e; sent = sym (append-nil (bytes_sent v.events)) }, (refl, refl))) }
hear_passes ws v short e here = record {
  by = (
    [],
    (
      [],
      record {
        bytes = waiting_of v.end;
        given = refl;
        reads = ap (λ xs. (decode xs).packets) here ∙ short_alone ws e;
        sent = sym (append-nil (bytes_sent v.events));
      },
      (refl, refl),
    ),
  );
}

pub whole_passes : (v : Wire) → Passes OneRead NoneRead v (read v)
whole_passes v = hear_passes (waiting_of v.end) v (front (waiting_of v.end)) refl refl

pub read_passes : (v : Wire) → Passes OneRead NoFlush v (read v)
read_passes v = passes_so v (read v) (whole_passes v) (λ gs ss p h. h) (λ gs ss h. (ap flushes_of h.0, h.1))

-- one packet of content
abbrev pub Content : List Pkt → List Pkt → Option (List ℕ) → Type 0
Content gs ss None = (gs ≡ flush ∷ []) × (ss ≡ [])
Content gs ss (Some l) = (gs ≡ line l ∷ []) × (ss ≡ [])

-- neither a flush nor a single line was given
abbrev pub NoContent : List Pkt → List Pkt → Type 0
NoContent gs ss = (flushes_of gs ≡ 0) × (ss ≡ []) × ((l : List ℕ) → gs ≡ line l ∷ [] → ⊥)

right_nil : {X : Type 0} (xs : List X) (ys : List X) → xs ≡ ys → xs ++ [] ≡ ys
right_nil xs ys e = append-nil xs ∙ e

-- no content was given: less than a packet, or a marker
abbrev pub Unread : List Pkt → Type 0
Unread [] = Unit {0}
Unread (flush ∷ ps) = ⊥
Unread (delimiter ∷ ps) = ps ≡ []
Unread (response_end ∷ ps) = ps ≡ []
Unread (line l ∷ ps) = ⊥

-- no text was given: no content, or a line that is no text
abbrev pub Untold : List Pkt → Type 0
Untold [] = Unit {0}
Untold (flush ∷ ps) = ⊥
Untold (delimiter ∷ ps) = ps ≡ []
Untold (response_end ∷ ps) = ps ≡ []
Untold (line l ∷ ps) = (utf8 l ≡ false) × (ps ≡ [])

abbrev pub Silent : (List Pkt → Type 0) → List Pkt → List Pkt → Type 0
Silent Q gs ss = (ss ≡ []) × Q gs

unread_untold : (gs : List Pkt) → Unread gs → Untold gs
unread_untold [] h = tt
unread_untold (flush ∷ ps) h = h
unread_untold (delimiter ∷ ps) h = h
unread_untold (response_end ∷ ps) h = h
unread_untold (line l ∷ ps) h = absurd h

pub untold_flushes : (gs : List Pkt) → Untold gs → flushes_of gs ≡ 0
untold_flushes [] h = refl
untold_flushes (flush ∷ ps) h = absurd h
untold_flushes (delimiter ∷ ps) h = let k : flushes_of ps ≡ 0 = ap flushes_of h in omega arith
untold_flushes (response_end ∷ ps) h = let k : flushes_of ps ≡ 0 = ap flushes_of h in omega arith
untold_flushes (line l ∷ ps) h = let k : flushes_of ps ≡ 0 = ap flushes_of h.1 in omega arith

unread_line : (gs : List Pkt) (l : List ℕ) → Unread gs → gs ≡ line l ∷ [] → ⊥
unread_line gs l h e = subst Unread e h

-- nothing more was given, and nothing sent
last : (Q : List Pkt → Type 0) (gs ss qs : List Pkt) → gs ≡ qs → ss ≡ [] → Q qs → Silent Q (gs ++ []) (ss ++ [])
last Q gs ss qs e f q = (right_nil ss _ f, subst Q (sym (right_nil gs _ e)) q)

wanted_passes : (p : Pkt) (gs ss : List Pkt) (u : Wire) → OneRead gs ss p → Passes (λ hs ts o. Content (gs ++ hs) (ss ++ ts) o) (λ hs ts. Silent Unread (gs ++ hs) (ss ++ ts)) u (wanted p u)
wanted_passes flush gs ss u h = passes_got None u (right_nil gs _ h.0, right_nil ss _ h.1)
wanted_passes delimiter gs ss u h = passes_lost _ u (last Unread gs ss (delimiter ∷ []) h.0 h.1 refl)
wanted_passes response_end gs ss u h = passes_lost _ u (last Unread gs ss (response_end ∷ []) h.0 h.1 refl)
wanted_passes (line l) gs ss u h = passes_got (Some l) u (right_nil gs _ h.0, right_nil ss _ h.1)

-- content, or none
unread_passes : (v : Wire) → Passes Content (Silent Unread) v (read_content v)
unread_passes v = passes_then wanted v (read v) (whole_passes v) (λ gs ss p u h. wanted_passes p gs ss u h) (λ gs ss h. (h.1, subst Unread (sym h.0) tt))

pub only_content_passes : (v : Wire) → Passes Content NoContent v (read_content v)
only_content_passes v =
    passes_so v (read_content v) (unread_passes v) (λ gs ss o h. h) (λ gs ss h. (untold_flushes gs (unread_untold gs h.1), h.0, λ l e. unread_line gs l h.1 e))

-- one packet of text
abbrev pub AText : List Pkt → List Pkt → Option (List ℕ) → Type 0
AText gs ss None = (gs ≡ flush ∷ []) × (ss ≡ [])
AText gs ss (Some t) = (l : List ℕ) × (gs ≡ line l ∷ []) × (utf8 l ≡ true) × (trim_end l ≡ t) × (ss ≡ [])

text_is : (b : Bool) (t u : List ℕ) (n : ℕ) → ◌≡◌ {A = Result (List ℕ) ℕ} (cond b (Ok u) (Err n)) (Ok t) → (b ≡ true) × (u ≡ t)
text_is true t u n e = (refl, cc)
text_is false t u n e = let z : ◌≡◌ {A = ℕ} 0 1 = cc in absurd (omega arith)

text_not : (b : Bool) (u : List ℕ) (n m : ℕ) → ◌≡◌ {A = Result (List ℕ) ℕ} (cond b (Ok u) (Err n)) (Err m) → b ≡ false
text_not true u n m e = let z : ◌≡◌ {A = ℕ} 0 1 = cc in absurd (omega arith)
text_not false u n m e = refl

texted_passes : (l : List ℕ) (r : Result (List ℕ) ℕ) → text_of l ≡ r → (gs ss : List Pkt) (u : Wire) → Content gs ss (Some l)
    → Passes (λ hs ts o. AText (gs ++ hs) (ss ++ ts) o) (λ hs ts. Silent Untold (gs ++ hs) (ss ++ ts)) u (texted r u)
texted_passes l (Ok t) e gs ss u h = let k = text_is _ _ _ _ e in passes_got (Some t) u (l, right_nil gs _ h.0, k.0, k.1, right_nil ss _ h.1)
texted_passes l (Err n) e gs ss u h = passes_lost _ u (last Untold gs ss (line l ∷ []) h.0 h.1 (text_not _ _ _ _ e, refl))

text_in_passes : (o : Option (List ℕ)) (gs ss : List Pkt) (u : Wire) → Content gs ss o
    → Passes (λ hs ts x. AText (gs ++ hs) (ss ++ ts) x) (λ hs ts. Silent Untold (gs ++ hs) (ss ++ ts)) u (text_in o u)
text_in_passes None gs ss u h = passes_got None u (right_nil gs _ h.0, right_nil ss _ h.1)
text_in_passes (Some l) gs ss u h = texted_passes l (text_of l) refl gs ss u h

-- text, or none
pub only_text_passes : (v : Wire) → Passes AText (Silent Untold) v (read_text v)
only_text_passes v =
    passes_then text_in v (read_content v) (unread_passes v) (λ gs ss o u h. text_in_passes o gs ss u h) (λ gs ss h. (h.0, unread_untold gs h.1))

pub text_passes : (v : Wire) → Passes AText NoFlush v (read_text v)
text_passes v = passes_so v (read_text v) (only_text_passes v) (λ gs ss o h. h) (λ gs ss h. (untold_flushes gs h.1, h.0))

-- Reading on

-- what is noted is neither given nor sent
abbrev pub Quiet : List Event → Type 0
Quiet ns = (past : List Event) → (bytes_given (ns ++ past) ≡ bytes_given past) × (bytes_sent (ns ++ past) ≡ bytes_sent past)

pub quiet_none : Quiet []
quiet_none past = (refl, refl)

pub quiet_noted : (s : List ℕ) → Quiet (noted s ∷ [])
quiet_noted s past = (refl, refl)

-- after packets hs: a state goes on, or an answer stops
abbrev pub Turns : {S A : Type 0} → (List Pkt → S → Type 0) → (List Pkt → A → Type 0) → List Pkt → Turn S A → Type 0
Turns I P hs (goes s ns) = Quiet ns × I hs s
Turns I P hs (stops b) = P hs b

module _ {S X A : Type 0} (reader : Wire → Got X) (step : S → X → Turn S A) {R : List Pkt → List Pkt → X → Type 0} {N : List Pkt → Type 0}
    (reads : (v : Wire) → Passes R (λ gs ss. N gs × (ss ≡ [])) v (reader v)) (silent : (gs ss : List Pkt) (x : X) → R gs ss x → ss ≡ [])
    (I : List Pkt → S → Type 0) (P : List Pkt → A → Type 0) (Q : List Pkt → Type 0)
    (turn : (hs gs ss : List Pkt) (s : S) (x : X) → I hs s → R gs ss x → Turns I P (hs ++ gs) (step s x))
    (fault : (hs gs : List Pkt) (s : S) → I hs s → N gs → Q (hs ++ gs)) (none : N []) where
  abbrev Answers : List Pkt → List Pkt → List Pkt → A → Type 0
  Answers hs gs ss b = (ss ≡ []) × P (hs ++ gs) b

  abbrev Faults : List Pkt → List Pkt → List Pkt → Type 0
  Faults hs gs ss = (ss ≡ []) × Q (hs ++ gs)

  turned_passes : (more : S → Wire → Got A) (c : Turn S A) (u : Wire) (hs gs ss : List Pkt) → ((s : S) (v : Wire) → I (hs ++ gs) s → Passes (Answers (hs ++ gs)) (Faults (hs ++ gs)) v (more s v))
      → ss ≡ [] → Turns I P (hs ++ gs) c → Passes (λ gs' ss' b. Answers hs (gs ++ gs') (ss ++ ss') b) (λ gs' ss'. Faults hs (gs ++ gs') (ss ++ ss')) u (turned more c u)
  turned_passes more (goes s ns) u hs gs ss on none (quiet, i) =
      let u' = wire u.end u.later (ns ++ u.events) in
      let q = quiet u.events in
      passes_after u u' [] [] (since_none u u' q.0 q.1) (more s u')
      (passes_so u' (more s u') (on s u' i)
      (λ gs' ss' b h. (ap (λ xs. xs ++ ss') none ∙ h.0, subst (λ xs. P xs b) (append_assoc hs gs gs') h.1))
      (λ gs' ss' h. (ap (λ xs. xs ++ ss') none ∙ h.0, subst Q (append_assoc hs gs gs') h.1)))
  turned_passes more (stops b) u hs gs ss on none p =
      passes_got b u (right_nil ss _ none, subst (λ xs. P xs b) (sym (ap (λ xs. hs ++ xs) (append-nil gs))) p)

  gather_in_passes : (k : ℕ) (s : S) (v : Wire) (hs : List Pkt) → I hs s → Passes (Answers hs) (Faults hs) v (gather_in reader step k s v)
  gather_in_passes zero s v hs i = passes_lost _ v (refl, fault hs [] s i none)
  gather_in_passes (suc k) s v hs i =
      passes_then (λ x u. turned (gather_in reader step k) (step s x) u) v (reader v) (reads v)
      (λ gs ss x u r. turned_passes (gather_in reader step k) (step s x) u hs gs ss (λ s' v' i'. gather_in_passes k s' v' (hs ++ gs) i') (silent gs ss x r) (turn hs gs ss s x i r))
      (λ gs ss h. (h.1, fault hs gs s i h.0))

  pub gather_passes_by : (s : S) (v : Wire) → I [] s → Passes (λ gs ss b. (ss ≡ []) × P gs b) (λ gs ss. (ss ≡ []) × Q gs) v (gather reader step s v)
  unfolding gather
  gather_passes_by s v i = gather_in_passes (suc (length (waiting_of v.end))) s v [] i

-- the same where no more is known of a fault than that no flush was given
pub gather_passes : {S X A : Type 0} (reader : Wire → Got X) (step : S → X → Turn S A) {R : List Pkt → List Pkt → X → Type 0}
    (reads : (v : Wire) → Passes R NoFlush v (reader v)) (silent : (gs ss : List Pkt) (x : X) → R gs ss x → ss ≡ [])
    (I : List Pkt → S → Type 0) (P : List Pkt → A → Type 0) (Q : List Pkt → Type 0)
    (turn : (hs gs ss : List Pkt) (s : S) (x : X) → I hs s → R gs ss x → Turns I P (hs ++ gs) (step s x))
    (fault : (hs gs : List Pkt) (s : S) → I hs s → flushes_of gs ≡ 0 → Q (hs ++ gs))
    (s : S) (v : Wire) → I [] s → Passes (λ gs ss b. (ss ≡ []) × P gs b) (λ gs ss. (ss ≡ []) × Q gs) v (gather reader step s v)
gather_passes reader step reads silent I P Q turn fault s v i = gather_passes_by reader step reads silent I P Q turn fault refl s v i

-- What a call on a host tells

abbrev pub Told : {A : Type 0} → (List Pkt → List Pkt → A → Type 0) → (List Pkt → List Pkt → Type 0) → List ℕ → List ℕ → Result A LineFault → Type 0
Told P Q sent given (Ok a) = (gs : List Pkt) × ((ss : List Pkt) × ReadsAs given gs × (sent ≡ packets ss) × P gs ss a)
Told P Q sent given (Err f) = (gs : List Pkt) × ((ss : List Pkt) × ((decode given).packets ≡ gs) × (sent ≡ packets ss) × Q gs ss)

-- from the start on
module _ (v u : Wire) (es : List Event) (gs ss : List Pkt) (start : v.events ≡ []) (end : u.events ≡ es ++ []) where
  pub since_told : Since v u gs ss → ReadsAs (bytes_given es) gs × (bytes_sent es ≡ packets ss)
  since_told s =
      let given : bytes_given es ≡ s.bytes = ap bytes_given (sym (end ∙ append-nil es)) ∙ s.given ∙ ap (λ xs. bytes_given xs ++ s.bytes) start in
      (ap decode given ∙ s.reads, ap bytes_sent (sym (end ∙ append-nil es)) ∙ s.sent ∙ ap (λ xs. bytes_sent xs ++ packets ss) start)

  pub until_told : Until v u gs ss → ((decode (bytes_given es)).packets ≡ gs) × (bytes_sent es ≡ packets ss)
  until_told s =
      let given : bytes_given es ≡ s.bytes = ap bytes_given (sym (end ∙ append-nil es)) ∙ s.given ∙ ap (λ xs. bytes_given xs ++ s.bytes) start in
      (ap (λ xs. (decode xs).packets) given ∙ s.reads, ap bytes_sent (sym (end ∙ append-nil es)) ∙ s.sent ∙ ap (λ xs. bytes_sent xs ++ packets ss) start)

told_ends : {A : Type 0} (P : List Pkt → List Pkt → A → Type 0) (Q : List Pkt → List Pkt → Type 0) (v u : Wire) (es : List Event) (r : Result A LineFault) → v.events ≡ [] → u.events ≡ es ++ []
    → Passed P Q v (ends r u) → Told P Q (bytes_sent es) (bytes_given es) r
told_ends P Q v u es (Ok a) start end (gs, (ss, s, p)) = let t = since_told v u es gs ss start end s in (gs, (ss, t.0, t.1, p))
told_ends P Q v u es (Err f) start end (gs, (ss, s, q)) = let t = until_told v u es gs ss start end s in (gs, (ss, t.0, t.1, q))

pub told_by_talk : {A : Type 0} (P : List Pkt → List Pkt → A → Type 0) (Q : List Pkt → List Pkt → Type 0) (f : Wire → Got A) {w : Sight} {p : ℕ} {a : Areas} {r : Result A LineFault} {w' : Sight} {a' : Areas}
    → ((v : Wire) → Passes P Q v (f v)) → (t : Talks f w p a r w' a') → Told P Q (bytes_sent t.events) (bytes_given t.events) r
told_by_talk P Q f {w = w} {p = p} {r = r} {w' = w'} passes t =
    let l = t.goes (λ _ _ _. []) in
    let v = wire (process w.world p) l.0 [] in
    told_ends P Q v (wire (process w'.world p) (λ _ _ _. []) (t.events ++ [])) t.events r refl refl (subst (Passed P Q v) (l.1 []) (passes v).by)
