-- What laying a packet over the front of an area answers and leaves.
use Rattle.std.specs.Prelude.{◌≡◌, ℕ, cond, List, ◌++◌, length, take, is_ok, Ok, Err, Result, nat_le}
use Rattle.packetline.specs.declared.encode.Error.{Error}
use Rattle.packetline.specs.declared.encode.Error.TheVariants.{AreaTooShort, OutsideLimits}
use Rattle.packetline.specs.Packets.{Pkt, sendable, packet, whole, front, over}

abbrev pub encode_number : Error → ℕ
encode_number AreaTooShort = 1
encode_number OutsideLimits = 2

-- the packet's length; 1 if it is longer than the room for it, then 2 if it cannot be sent
abbrev pub framing : Pkt → ℕ → Result ℕ ℕ
framing p room = cond (nat_le (length (packet p)) room) (cond (sendable p) (Ok (length (packet p))) (Err 2)) (Err 1)

pub record Framed (p : Pkt) (area : List ℕ) (r : Result ℕ ℕ) (area' : List ℕ) : Type 0 where
  pub answer : r ≡ framing p (length area)
  -- the packet lies over the front; a refusal changes nothing
  pub laid : area' ≡ cond (is_ok r) (over (packet p) area) area
  -- what was laid down reads back as itself, whatever follows it
  pub back : (n : ℕ) → r ≡ Ok n → (rest : List ℕ) → front (take n area' ++ rest) ≡ whole p (take n area') rest
