-- Where the server of a process stands between two packets, and what it does with the next one.
use Rattle.std.specs.Prelude.{◌≡◌, ℕ, suc, Bool, true, false, cond, List, [], ◌∷◌, Some, None, Ok, Err, Option, Result}
use Rattle.slices.specs.declared.name.Name.{Name}
use Rattle.choices.specs.Choices.{first_offered}
use Rattle.packetline.specs.Packets.{Pkt, flush, delimiter, response_end, line, whole, front}
use Rattle.packetline.specs.Text.{text_of}
use Rattle.host.specs.Worlds.{waiting_of}
use Rattle.host.specs.Talk.{Wire, Got, got, lost, then, send_all, heard, read, read_text}
use Rattle.process.specs.Gather.{Turn, goes, stops, gather}
use Rattle.requests.specs.Stored.{Request, request}
use Rattle.requests.specs.Requests.{command_in, meta_step}
use Rattle.handshake.specs.Judged.{if_right}
use Rattle.handshake.specs.Servers.{hailed, versions_step, picked, shared_step, answers, shares, shares_then, pick_then}
use Rattle.mirror.specs.Reflecting.{no_blobs, reflection, lists, opening, content_step, reflected, answered_then, answers_on, met_then, mirrored}

-- It waits for the client's welcome; for more versions than these; for more names than those at these places, version n being chosen; for a request; for
-- more of this request; for more content than this; or for nothing any more.
pub data Stage : Type 0 where
  hailing : Stage
  offering : List ℕ → Stage
  naming : ℕ → List ℕ → Stage
  idle : Stage
  asking : Request → Stage
  hearing : Option (List ℕ) → Stage
  silent : Stage

-- what it says to a packet, and where it stands then
pub record Move : Type 0 where
  pub says : List Pkt
  pub to : Stage

abbrev pub moves : List Pkt → Stage → Move
moves ps s = record { says = ps; to = s }

-- it says nothing
abbrev pub stands : Stage → Move
stands s = moves [] s

abbrev pub gives_up : Move
gives_up = stands silent

-- By the server's own steps

-- what is heard, where it can be
abbrev pub taken : {X : Type 0} → Option X → (X → Move) → Move
taken None f = gives_up
taken (Some x) f = f x

abbrev pub texted : Result (List ℕ) ℕ → Option (Option (List ℕ))
texted (Ok t) = Some (Some t)
texted (Err n) = None

-- a packet where a line of text is wanted: its text, or none at a flush
abbrev pub text_in : Pkt → Option (Option (List ℕ))
text_in flush = Some None
text_in delimiter = None
text_in response_end = None
text_in (line l) = texted (text_of l)

-- a packet of content: its payload, or none at a flush
abbrev pub content_in : Pkt → Option (Option (List ℕ))
content_in flush = Some None
content_in delimiter = None
content_in response_end = None
content_in (line l) = Some (Some l)

abbrev pub hailed_to : Result (Unit {0}) ℕ → Move
hailed_to (Ok _) = stands (offering [])
hailed_to (Err n) = gives_up

abbrev pub picked_to : List ℕ → Result ℕ ℕ → Move
picked_to prefix (Ok n) = moves (answers prefix n) (naming n [])
picked_to prefix (Err n) = gives_up

abbrev pub offered_to : List ℕ → Turn (List ℕ) (Result (List ℕ) ℕ) → Move
offered_to prefix (goes vs es) = stands (offering vs)
offered_to prefix (stops (Ok vs)) = picked_to prefix (picked (first_offered (2 ∷ []) vs))
offered_to prefix (stops (Err n)) = gives_up

abbrev pub named_to : List Name → ℕ → Turn (List ℕ) (List ℕ) → Move
named_to names n (goes ks es) = stands (naming n ks)
named_to names n (stops ks) = moves (shares names ks) idle

abbrev pub commanded_to : Result (Option (List ℕ)) ℕ → Move
commanded_to (Ok (Some c)) = stands (asking (request c []))
commanded_to (Ok None) = gives_up
commanded_to (Err n) = gives_up

abbrev pub request_to : Request → Move
request_to q = cond (lists q) (moves no_blobs idle) (stands (hearing (opening q)))

abbrev pub asked_to : Turn Request (Result (Option Request) ℕ) → Move
asked_to (goes q es) = stands (asking q)
asked_to (stops (Ok (Some q))) = request_to q
asked_to (stops (Ok None)) = gives_up
asked_to (stops (Err n)) = gives_up

abbrev pub content_to : Turn (Option (List ℕ)) (Option (List ℕ)) → Move
content_to (goes c es) = stands (hearing c)
content_to (stops c) = moves (reflection c) idle

-- what a server of this prefix and these names does with a packet
abbrev pub hears : List ℕ → List Name → Stage → Pkt → Move
hears prefix names hailing p = taken (text_in p) (λ t. hailed_to (hailed prefix t))
hears prefix names (offering vs) p = taken (text_in p) (λ t. offered_to prefix (versions_step 16 vs t))
hears prefix names (naming n ks) p = taken (text_in p) (λ t. named_to names n (shared_step names ks t))
hears prefix names idle p = taken (text_in p) (λ t. commanded_to (command_in 8192 t))
hears prefix names (asking q) p = asked_to (meta_step 16 8192 q p)
hears prefix names (hearing c) p = taken (content_in p) (λ l. content_to (content_step c l))
hears prefix names silent p = gives_up

-- What it means

-- what is left of the server's talk from where it stands, with at most k requests behind the one in hand
abbrev pub rest_of : List ℕ → List Name → ℕ → Stage → Wire → Got (Result (Unit {0}) ℕ)
rest_of prefix names k hailing v = mirrored prefix names k v
rest_of prefix names k (offering vs) v =
    then (then (gather read_text (versions_step 16) vs v) (if_right (pick_then prefix (first_offered (2 ∷ [])) names))) (if_right (met_then k))
rest_of prefix names k (naming n ks) v = then (then (gather read_text (shared_step names) ks v) (shares_then names n)) (if_right (met_then k))
rest_of prefix names k idle v = answers_on k v
rest_of prefix names k (asking q) v = then (gather read (meta_step 16 8192) q v) (if_right (answered_then (answers_on k)))
rest_of prefix names k (hearing c) v = then (reflected c v) (λ _ u. answers_on k u)
rest_of prefix names k silent v = got (Ok tt) v

-- a request that begins is one of those to come
abbrev pub with_next : Stage → ℕ → ℕ
with_next hailing k = k
with_next (offering vs) k = k
with_next (naming n ks) k = k
with_next idle k = suc k
with_next (asking q) k = k
with_next (hearing c) k = k
with_next silent k = k

abbrev pub is_silent : Stage → Bool
is_silent hailing = false
is_silent (offering vs) = false
is_silent (naming n ks) = false
is_silent idle = false
is_silent (asking q) = false
is_silent (hearing c) = false
is_silent silent = true

-- the process and all that passed, as a talk leaves them, whatever it comes to
abbrev pub leaves : {A : Type 0} → Got A → Wire
leaves (got a v) = v
leaves (lost f v) = v

-- Where a packet waits first, what is left of the server's talk is this: the packet is taken, what the server says to it is sent, and the talk goes on from
-- where the server stands then. Only a server that gave up takes nothing more.
abbrev pub GoesOn : List ℕ → List Name → Stage → Pkt → Type 0
GoesOn prefix names s p =
    is_silent s ≡ false → (k : ℕ) (v : Wire) (bytes rest : List ℕ) → front (waiting_of v.end) ≡ whole p bytes rest
    → leaves (rest_of prefix names (with_next s k) s v)
    ≡ leaves (then (send_all (hears prefix names s p).says (heard bytes rest v)) (λ _ u. rest_of prefix names k (hears prefix names s p).to u))
