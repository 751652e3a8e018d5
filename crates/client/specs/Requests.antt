-- An exchange: a command in lines, its content in packets, and the status that the process answers.
-- From gitattributes, long running filter process; docs/PROTOCOL.md, An exchange.
use Rattle.std.specs.Prelude.{◌≡◌, ℕ, cond, List, [], ◌∷◌, ◌++◌, map, Some, None, Ok, codes, Option, Result}
use Rattle.packetline.specs.declared.encode.Error.{Error as Misuse}
use Rattle.packetline.specs.declared.encode.Error.TheVariants.{AreaTooShort as Short, OutsideLimits}
use Rattle.packetline.specs.Packets.{Pkt, flush, line, line_pkt, packets, all_sendable}
use Rattle.host.specs.declared.fault.LineFault.{LineFault}
use Rattle.host.specs.Parts.{parts}
use Rattle.host.specs.Talk.{Wire, Got, got, then, send_all}
use Rattle.client.specs.declared.invoke.Meta.{Meta}
use Rattle.process.specs.declared.status.Status.{Status}
use Rattle.process.specs.Given.{ReadsAs, have_room}
use Rattle.process.specs.Statuses.{first, read_status, StatusLines}

-- What the client says

-- a metadata line: key, `=`, value
abbrev pub meta_line : Meta → Pkt
meta_line m = line_pkt (m.key.now ++ 61 ∷ m.value.now)

abbrev pub command_line : List ℕ → Pkt
command_line c = line_pkt (codes "command=" ++ c)

-- a command's lines, and a flush
abbrev pub request : List ℕ → List Meta → List Pkt
request c ms = command_line c ∷ (map meta_line ms ++ flush ∷ [])

-- content in packets, and a flush
abbrev pub content_packets : List ℕ → List Pkt
content_packets c = map line (parts c) ++ flush ∷ []

-- The talk

-- a status as the first of an exchange
abbrev pub as_first : Status → Wire → Got Status
as_first s v = got (first s) v

abbrev pub first_status : Wire → Got Status
first_status v = then (read_status v) as_first

abbrev pub status_then : Unit {0} → Wire → Got Status
status_then _ v = first_status v

abbrev pub content_then : List ℕ → Unit {0} → Wire → Got Status
content_then content _ v = then (send_all (content_packets content) v) status_then

-- lines and a flush, content and a flush; then a status
abbrev pub invoked : List ℕ → List Meta → List ℕ → Wire → Got Status
invoked command ms content v = then (send_all (request command ms) v) (content_then content)

-- What it means

-- An exchange answers a status exactly if what was given decodes to lines that tell it; then all that the client says was sent, and nothing else.
pub record InvokeLaw (command : List ℕ) (ms : List Meta) (content sent given : List ℕ) (r : Result Status LineFault) : Type 0 where
  pub says : (s : Status) → r ≡ Ok s → sent ≡ packets (request command ms ++ content_packets content)
  pub only : (s : Status) → r ≡ Ok s → (ps : List Pkt) × ((s₀ : Status) × ReadsAs given ps × StatusLines ps s₀ × (s ≡ first s₀))
  pub all : (ps : List Pkt) (s₀ : Status) → ReadsAs given ps → StatusLines ps s₀ → r ≡ Ok (first s₀)

-- the fault of a caller who invokes a command: 1 where an area has no room, 2 where a line of it cannot be sent
abbrev pub invoke_fault : List ℕ → List ℕ → List ℕ → List Meta → Option Misuse
invoke_fault work status command ms =
    cond (have_room work status) (cond (all_sendable (request command ms)) None (Some OutsideLimits)) (Some Short)
