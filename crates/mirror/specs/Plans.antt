-- What a process answers to sends: it is a server that takes one packet a send, each when what it said before has been received.
use Rattle.std.specs.Prelude.{ℕ, Bool, cond, List, [], ◌∷◌, Some, None, Option}
use Rattle.slices.specs.declared.name.Name.{Name}
use Rattle.packetline.specs.Packets.{Pkt, Front, whole, bad, short, front, packets}
use Rattle.host.specs.declared.fault.Fault.TheVariants.{Closed}
use Rattle.host.specs.declared.fault.Snag.TheVariants.{Broken}
use Rattle.host.specs.Worlds.{Reply, Said, known, Pipe}
use Rattle.mirror.specs.Stages.{Stage, Move, taken, hears}

-- the packet that bytes are, if they are one and nothing else
abbrev pub only : Front → Option Pkt
only (whole p bytes []) = Some p
only (whole p bytes (b ∷ rest)) = None
only (bad bytes rest) = None
only short = None

-- the packet that is sent, if no bytes wait
abbrev pub sent_packet : List ℕ → Bool → Option Pkt
sent_packet bytes waited = cond waited None (only (front bytes))

-- at any other send the server gives up
abbrev pub at_send : List ℕ → List Name → Stage → List ℕ → Bool → Move
at_send prefix names s bytes waited = taken (sent_packet bytes waited) (hears prefix names s)

-- the reply after these sends, from a stage on
abbrev pub plan : List ℕ → List Name → Stage → List Said → Reply
plan prefix names s [] = λ bytes waited. packets (at_send prefix names s bytes waited).says
plan prefix names s (x ∷ xs) = plan prefix names (at_send prefix names s x.bytes x.waited).to xs

-- an open process whose server stands so
abbrev pub pipe_at : List ℕ → List Name → Stage → List ℕ → ℕ → Pipe
pipe_at prefix names s waiting allowance = record { waiting = waiting; ending = Closed; allowance = allowance; snag = Broken; replies = known (plan prefix names s) }
