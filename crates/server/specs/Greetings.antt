-- A server's handshake as a user's call: what it answers and what its caller may be at fault for.
use Rattle.std.specs.Prelude.{ℕ, cond, List, length, Some, None, Option, Result, nat_le}
use Rattle.packetline.specs.declared.encode.Error.{Error as Misuse}
use Rattle.packetline.specs.declared.encode.Error.TheVariants.{AreaTooShort as Short, OutsideLimits}
use Rattle.slices.specs.declared.name.Name.{Name}
use Rattle.host.specs.declared.fault.LineFault.{LineFault}
use Rattle.host.specs.Calls.{has_room}
use Rattle.handshake.specs.Servers.{Met, met, ServedLaw, HoldsLater}
use Rattle.handshake.specs.Sharing.{places_of}
use Rattle.server.specs.declared.server.Server.{Server}

-- the version and the shared names of a server
abbrev pub met_with : Server → Met
met_with s = met s.version (places_of s.shared)

-- what is answered has its law, and the rows hold the versions that the client offered
abbrev pub GreetLaw : List ℕ → List ℕ → (List ℕ → Option ℕ) → List Name → List ℕ → List ℕ → List ℕ → Result (Result Met ℕ) LineFault → Type 0
GreetLaw prefix rows choice names rows' sent given r = ServedLaw prefix (length rows) choice names sent given r × HoldsLater rows given rows'

-- the fault of a caller who shakes hands: 1 where the longest packet has no room in the work area, 2 where there are more than 32 names
abbrev pub serve_fault : List ℕ → List Name → Option Misuse
serve_fault work names = cond (has_room work) (cond (nat_le (length names) 32) None (Some OutsideLimits)) (Some Short)
