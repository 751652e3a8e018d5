-- The calls that users make: why they refuse, and what a reader tells of its stream.
use Rattle.std.specs.Prelude.{◌≡◌, ℕ, Bool, true, cond, List, [], ◌++◌, length, Some, None, Ok, Err, Option, Result, ◌≢◌, nat_le}
use Rattle.packetline.specs.Packets.{Pkt, sendable, packet, lowered}
use Rattle.host.specs.declared.fault.Fault.{Fault}
use Rattle.host.specs.declared.fault.LineFault.{LineFault}
use Rattle.host.specs.declared.fault.LineFault.TheVariants.{Host}
use Rattle.host.specs.declared.call.CallError.{CallError}
use Rattle.host.specs.declared.call.CallError.TheVariants.{Caller, Line}
use Rattle.host.specs.declared.call.AreaTooShort.{AreaTooShort}
use Rattle.host.specs.Refusals.{too_short}
use Rattle.packetline.specs.declared.encode.Error.{Error as Misuse}
use Rattle.packetline.specs.declared.encode.Error.TheVariants.{AreaTooShort as Short, OutsideLimits}

-- What a reader tells of the bytes that wait, ws before and ws' after.
pub record Streamed (ws : List ℕ) (r : Result Pkt LineFault) (ws' : List ℕ) : Type 0 where
  -- a packet that was sent is read back as itself, and what follows it still waits
  pub back : (p : Pkt) (rest : List ℕ) → sendable p ≡ true → ws ≡ packet p ++ rest → (r ≡ Ok p) × (ws' ≡ rest)
  -- only a packet that can be sent is read, and its bytes are gone from the front, up to the case of their four digits
  pub only : (p : Pkt) → r ≡ Ok p → (sendable p ≡ true) × ((bytes : List ℕ) × (lowered bytes ≡ packet p) × (ws ≡ bytes ++ ws'))
  -- the host's fault is told only where no whole packet waits: the input runs out before a packet's end, and nothing waits any more
  pub stops : (f : Fault) → r ≡ Err (Host f)
      → (ws' ≡ []) × ((p : Pkt) (bytes rest : List ℕ) → sendable p ≡ true → lowered bytes ≡ packet p → ws ≢ bytes ++ rest)

-- whether the longest packet has room in an area
abbrev pub has_room : List ℕ → Bool
has_room area = nat_le 65520 (length area)

-- the fault of a caller who lends an area: 1 where it has no room
abbrev pub room : List ℕ → Option AreaTooShort
room area = cond (has_room area) None (Some too_short)

-- the fault of a caller who sends a packet: 1 as above, then 2 where the packet cannot be sent
abbrev pub judged : Pkt → List ℕ → Option Misuse
judged p area = cond (has_room area) (cond (sendable p) None (Some OutsideLimits)) (Some Short)

-- A call that judges its arguments: where its caller is at fault it answers that, and all is as it was; else it goes on.
abbrev pub Checked : {A C E : Type 0} → Option C → (Result A E → Type 0) → Type 0 → Result A (CallError C E) → Type 0
Checked fault goes same (Ok a) = (fault ≡ None) × goes (Ok a)
Checked fault goes same (Err (Line e)) = (fault ≡ None) × goes (Err e)
Checked fault goes same (Err (Caller c)) = (fault ≡ Some c) × same
