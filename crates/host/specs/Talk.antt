-- What is said to one process and heard from it in one call: a function from the process as the call finds it to an answer and the process as
-- the call leaves it, with all that passed on the way. How a host cuts the bytes that it gives is not seen here.
-- From docs/HOST.md, Talking to one process.
use Rattle.std.specs.Prelude.{◌≡◌, ℕ, suc, List, [], ◌∷◌, ◌++◌, length, take, drop, Some, None, Ok, Err, Option, Result}
use Rattle.std.specs.Option.{option_map}
use Rattle.slices.specs.Answers.{told}
use Rattle.packetline.specs.declared.packet.Packet.{Packet}
use Rattle.packetline.specs.declared.decode.Error.TheVariants.{BadHeader}
use Rattle.packetline.specs.declared.text.Error.TheVariants.{NotUtf8}
use Rattle.packetline.specs.Packets.{Pkt, flush, delimiter, response_end, line, packet, with_payload, Front, whole, bad, short, front, over}
use Rattle.packetline.specs.Text.{text_of}
use Rattle.host.specs.declared.fault.Fault.{Fault}
use Rattle.host.specs.declared.fault.LineFault.{LineFault}
use Rattle.host.specs.declared.fault.LineFault.TheVariants.{Host, Packet as of_packet, Marker, Text}
use Rattle.host.specs.Worlds.{Reply, Process, World, process, with_process, waiting_of, waiting_now, stop_of}
use Rattle.host.specs.Acts.{refusal_of, sent_to, Act, sending, Log, Grows}
use Rattle.host.specs.Fills.{Joined}

-- What passes

-- bytes that a send took, bytes that a send refused, the bytes given of a packet, and the name of a status that was read
pub data Event : Type 0 where
  took refused gave noted : List ℕ → Event

-- the bytes that a process took, in order; events stand the latest first
abbrev pub bytes_sent : List Event → List ℕ
bytes_sent [] = []
bytes_sent (took b ∷ es) = bytes_sent es ++ b
bytes_sent (refused b ∷ es) = bytes_sent es
bytes_sent (gave b ∷ es) = bytes_sent es
bytes_sent (noted s ∷ es) = bytes_sent es

-- the bytes that a process gave, in order
abbrev pub bytes_given : List Event → List ℕ
bytes_given [] = []
bytes_given (took b ∷ es) = bytes_given es
bytes_given (refused b ∷ es) = bytes_given es
bytes_given (gave b ∷ es) = bytes_given es ++ b
bytes_given (noted s ∷ es) = bytes_given es

-- the areas that a caller lends
pub record Areas : Type 0 where
  pub work : List ℕ
  pub status : List ℕ

abbrev pub areas : List ℕ → List ℕ → Areas
areas w s = record { work = w; status = s }

-- the first 128 bytes of a status name, over the front of a status area
abbrev pub name_over : List ℕ → List ℕ → List ℕ
name_over name area = over (take 128 name) area

-- The overlay rule. Each framed packet, taken or refused, and each payload given, or what came of a cut one, is laid over the front of the work
-- area; the four bytes of a header are not, so a header cut short lays nothing. The first 128 bytes of a status name are laid over the front of
-- the status area. The rest stays.
abbrev pub lay_one : Event → Areas → Areas
lay_one (took b) a = areas (over b a.work) a.status
lay_one (refused b) a = areas (over b a.work) a.status
lay_one (gave b) a = areas (over (drop 4 b) a.work) a.status
lay_one (noted s) a = areas a.work (name_over s a.status)

abbrev pub lay : List Event → Areas → Areas
lay [] a = a
lay (e ∷ es) a = lay_one e (lay es a)

-- A process during a call

-- what a host leaves free: the reply that each send to come leaves behind for the send after it
abbrev pub Later : Type 0
Later = ℕ → Reply

-- the process, the replies to come, and what has passed, the latest first
pub record Wire : Type 0 where
  pub end : Process
  pub later : Later
  pub events : List Event

abbrev pub wire : Process → Later → List Event → Wire
wire q l es = record { end = q; later = l; events = es }

-- an answer, or the fault that ended the talk, and the process then
pub data Got (A : Type 0) : Type 0 where
  got : A → Wire → Got A
  lost : LineFault → Wire → Got A

-- one talk after another; a fault ends both
abbrev pub then : {A B : Type 0} → Got A → (A → Wire → Got B) → Got B
then (got a v) f = f a v
then (lost x v) f = lost x v

-- a call's answer, with the process as the call left it
abbrev pub ends : {A : Type 0} → Result A LineFault → Wire → Got A
ends (Ok a) v = got a v
ends (Err f) v = lost f v

-- Sending

abbrev pub sent_by : Result (Unit {0}) Fault → List ℕ → Wire → Got (Unit {0})
sent_by (Ok _) b v = got tt (wire (sent_to v.end b (v.later 0)) (λ n. v.later (suc n)) (took b ∷ v.events))
sent_by (Err f) b v = lost (Host f) (wire v.end v.later (refused b ∷ v.events))

-- one packet is one send
abbrev pub send : Pkt → Wire → Got (Unit {0})
send p v = sent_by (refusal_of v.end (length (packet p))) (packet p) v

-- packets in order, up to the first that is refused
abbrev pub send_all : List Pkt → Wire → Got (Unit {0})
send_all [] v = got tt v
send_all (p ∷ ps) v = then (send p v) (λ _ u. send_all ps u)

-- Reading

-- these bytes were given, and rest still waits
abbrev pub heard : List ℕ → List ℕ → Wire → Wire
heard b rest v = wire (waiting_now rest v.end) v.later (gave b ∷ v.events)

-- a whole packet; or four bytes that are no header; or all that waits, and then the ending
abbrev pub hear : Front → Wire → Got Pkt
hear (whole p b rest) v = got p (heard b rest v)
hear (bad b rest) v = lost (of_packet BadHeader) (heard b rest v)
hear short v = lost (Host (stop_of v.end)) (heard (waiting_of v.end) [] v)

-- one packet
abbrev pub read : Wire → Got Pkt
read v = hear (front (waiting_of v.end)) v

-- a packet where content or text is wanted: its payload, or none at a flush; a marker is a fault
abbrev pub wanted : Pkt → Wire → Got (Option (List ℕ))
wanted flush v = got None v
wanted delimiter v = lost Marker v
wanted response_end v = lost Marker v
wanted (line payload) v = got (Some payload) v

-- a packet of content: its payload as it is
abbrev pub read_content : Wire → Got (Option (List ℕ))
read_content v = then (read v) wanted

abbrev pub texted : Result (List ℕ) ℕ → Wire → Got (Option (List ℕ))
texted (Ok t) v = got (Some t) v
texted (Err _) v = lost (Text NotUtf8) v

abbrev pub text_in : Option (List ℕ) → Wire → Got (Option (List ℕ))
text_in None v = got None v
text_in (Some payload) v = texted (text_of payload) v

-- a packet of text: its payload without the white space at its end; one that is not UTF-8 is a fault
abbrev pub read_text : Wire → Got (Option (List ℕ))
read_text v = then (read_content v) text_in

-- a reader's answer whose payload lies at the front of an area
abbrev pub shown : List ℕ → Result (Packet ℕ) LineFault → Result Pkt LineFault
shown area r = told (λ k. with_payload k area) (λ f. f) r

-- the same of an answer that gives a length, or none at a flush
abbrev pub shown_part : List ℕ → Result (Option ℕ) LineFault → Result (Option (List ℕ)) LineFault
shown_part area r = told (option_map (λ n. take n area)) (λ f. f) r

-- What a call on a host does

-- what is seen of a host
pub record Sight : Type 0 where
  pub log : Log
  pub world : World

abbrev pub sight : Log → World → Sight
sight g w = record { log = g; world = w }

-- these acts of a host, the latest first, are those events with process p: a send is one act, and what was given came by takes
abbrev pub Acted : ℕ → List Event → List Act → Type 0
Acted p [] acts = acts ≡ []
Acted p (took b ∷ es) acts = (rest : List Act) × (acts ≡ sending p b (Ok tt) ∷ rest) × Acted p es rest
Acted p (refused b ∷ es) acts = (f : Fault) × ((rest : List Act) × (acts ≡ sending p b (Err f) ∷ rest) × Acted p es rest)
Acted p (gave b ∷ es) acts = (takes : List Act) × ((rest : List Act) × (acts ≡ takes ++ rest) × Joined p takes b × Acted p es rest)
Acted p (noted s ∷ es) acts = Acted p es acts

-- A call on process p answered r, and what it did is f:
-- goes    whatever replies are to come after the call, there are replies during it with which f, from the process as the call found it, gives this
--         answer, leaves the process as the call left it, and lets these events pass; so two calls one after the other are one function after the other
-- others  no other process changed, nor what can be started
-- laid    the areas are as the overlay rule leaves them after these events
-- acted, grows  where the host keeps a log, it has grown by these events and by nothing else
pub record Talks {A : Type 0} (f : Wire → Got A) (w : Sight) (p : ℕ) (a : Areas) (r : Result A LineFault) (w' : Sight) (a' : Areas) : Type 0 where
  pub events : List Event
  pub goes : (rest : Later) → (later : Later) × ((past : List Event) → f (wire (process w.world p) later past) ≡ ends r (wire (process w'.world p) rest (events ++ past)))
  pub others : w'.world ≡ with_process w.world p (process w'.world p)
  pub laid : a' ≡ lay events a
  pub acts : List Act
  pub acted : Acted p events acts
  pub grows : Grows w.log acts w'.log

-- the same of a call that is lent no status area
abbrev pub Works : {A : Type 0} → (Wire → Got A) → Sight → ℕ → List ℕ → Result A LineFault → Sight → List ℕ → Type 0
Works f w p work r w' work' = (status : List ℕ) → Talks f w p (areas work status) r w' (areas work' status)
