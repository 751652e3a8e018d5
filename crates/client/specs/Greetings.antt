-- A handshake as a user's call: what it answers and what its caller may be at fault for.
use Rattle.std.specs.Prelude.{ℕ, cond, ◌&&◌, List, length, Some, None, Option, nat_le}
use Rattle.packetline.specs.declared.encode.Error.{Error as Misuse}
use Rattle.packetline.specs.declared.encode.Error.TheVariants.{AreaTooShort as Short, OutsideLimits}
use Rattle.slices.specs.declared.name.Name.{Name}
use Rattle.host.specs.Calls.{has_room}
use Rattle.handshake.specs.Handshakes.{Shaken, shaken}
use Rattle.client.specs.declared.client.Client.{Client}

-- the version and the mask of a client
abbrev pub shaken_with : Client → Shaken
shaken_with c = shaken c.version c.capabilities.mask

-- the fault of a caller who shakes hands: 1 where the longest packet has no room in the work area, 2 where there are more than 16 versions or 32 names
abbrev pub handshake_fault : List ℕ → List ℕ → List Name → Option Misuse
handshake_fault work versions names = cond (has_room work) (cond (nat_le (length versions) 16 && nat_le (length names) 32) None (Some OutsideLimits)) (Some Short)
