-- A writing: bytes in packets, and the flush that ends it.
-- From gitattributes, long running filter process; docs/PROTOCOL.md, Answering a request.
use Rattle.std.specs.Prelude.{◌≡◌, ℕ, List, [], ◌∷◌, ◌++◌, map, Ok, Err, Result}
use Rattle.packetline.specs.Packets.{Pkt, flush, line, packets}
use Rattle.host.specs.declared.call.AreaTooShort.{AreaTooShort}
use Rattle.host.specs.declared.call.CallError.{CallError}
use Rattle.host.specs.declared.call.CallError.TheVariants.{Caller, Line}
use Rattle.host.specs.declared.fault.LineFault.{LineFault}
use Rattle.host.specs.Faults.{line_number}
use Rattle.host.specs.Parts.{parts}
use Rattle.host.specs.Talk.{Wire, Got, then, send_all}
use Rattle.server.specs.declared.refused.Refused.{Refused}
use Rattle.server.specs.declared.response.Response.{Response}
use Rattle.server.specs.declared.writing.Writing.{Writing}
use Rattle.server.specs.declared.writing.Unflushed.{Unflushed}
use Rattle.server.specs.declared.writing.Unflushed.TheVariants.{Open, Ended}
use Rattle.server.specs.Says.{Before}

-- bytes in packets of 65,516, the last perhaps shorter; none for no bytes
abbrev pub written_packets : List ℕ → List Pkt
written_packets bytes = map line (parts bytes)

-- a writing on a response, and the response after it
abbrev pub writing_on : Response → Writing
writing_on a = record { server = a.server }

abbrev pub written_on : Writing → Response
written_on w = record { server = w.server }

-- Why a writing was not ended

-- the number of the reason
abbrev pub unflushed_number : {E : Type 0} → (E → ℕ) → Unflushed E → ℕ
unflushed_number number (Open r) = number r.why
unflushed_number number (Ended r) = line_number r.why

-- the reason, where a writing that is still open has one of these
abbrev pub unflushed : {E : Type 0} → (E → CallError AreaTooShort LineFault) → Unflushed E → CallError AreaTooShort LineFault
unflushed still (Open r) = still r.why
unflushed still (Ended r) = Line r.why

-- the same refusal of a call that may be refused for a fault too
abbrev pub widened : Unflushed AreaTooShort → Unflushed (CallError AreaTooShort LineFault)
widened (Open r) = Open (record { back = r.back; why = Caller r.why })
widened (Ended r) = Ended r

-- what a call that ends writing w hands back: w itself where it is still open; else the request after it, be the flush refused or not
abbrev pub EndsWriting : {E : Type 0} → Writing → Result Response (Unflushed E) → Type 0
EndsWriting w (Ok a) = a ≡ written_on w
EndsWriting w (Err (Open r)) = r.back ≡ w
EndsWriting w (Err (Ended r)) = r.back ≡ written_on w

-- A whole writing

abbrev pub flush_then : Unit {0} → Wire → Got (Unit {0})
flush_then _ v = send_all (flush ∷ []) v

-- its packets, and then its flush
abbrev pub written_whole : List ℕ → Wire → Got (Unit {0})
written_whole bytes v = then (send_all (written_packets bytes) v) flush_then

-- A whole writing succeeds if its packets and its flush were sent, and nothing else was. It is still open where one of its packets was refused, and ended
-- where all of them were sent and the flush was refused. Nothing is given.
pub record WholeLaw (bytes : List ℕ) (result : Result Response (Unflushed (CallError AreaTooShort LineFault))) (sent given : List ℕ) (r : Result (Unit {0}) LineFault) : Type 0 where
  pub nothing_given : given ≡ []
  pub says : r ≡ Ok tt → sent ≡ packets (written_packets bytes ++ flush ∷ [])
  pub open_at : (q : Refused Writing (CallError AreaTooShort LineFault)) → result ≡ Err (Open q) → Before (written_packets bytes) sent
  pub ended_at : (q : Refused Response LineFault) → result ≡ Err (Ended q) → sent ≡ packets (written_packets bytes)
