-- What a seat does: the memory of one process of a mirror, which is its server, what that said and was not received, and how many bytes it takes.
use Rattle.std.specs.Prelude.{◌≡◌, ℕ, ◌-◌, ◌^◌, true, List, [], ◌++◌, length, take, drop, min, slice_index_or, slice_set}
use Rattle.slices.specs.declared.name.Name.{Name}
use Rattle.packetline.specs.Packets.{packets}
use Rattle.host.specs.Acts.{some_wait}
use Rattle.mirror.specs.declared.seat.Seat.{Seat}
use Rattle.mirror.specs.Memory.{waiting_in}
use Rattle.mirror.specs.Stages.{hailing}
use Rattle.mirror.specs.Servers.{stage_of}
use Rattle.mirror.specs.Plans.{at_send}

-- a process that was just started
pub record Fresh (s : Seat) : Type 0 where
  pub opened : s.is_open ≡ true
  pub allowance : s.allowance ≡ 2 ^ 40
  pub stands : stage_of s.server ≡ hailing
  pub waits : waiting_in s.answer ≡ []

-- n of the bytes that wait are taken, and nothing else changes
pub record Takes (s : Seat) (n : ℕ) (s' : Seat) : Type 0 where
  pub opened : s'.is_open ≡ s.is_open
  pub allowance : s'.allowance ≡ s.allowance
  pub stands : stage_of s'.server ≡ stage_of s.server
  pub waits : waiting_in s'.answer ≡ drop n (waiting_in s.answer)

-- bytes are sent, and what is said to them waits too
pub record Sends (prefix : List ℕ) (names : List Name) (s : Seat) (bytes : List ℕ) (s' : Seat) : Type 0 where
  pub opened : s'.is_open ≡ s.is_open
  pub allowance : s'.allowance ≡ s.allowance - length bytes
  pub stands : stage_of s'.server ≡ (at_send prefix names (stage_of s.server) bytes (some_wait (waiting_in s.answer))).to
  pub waits : waiting_in s'.answer ≡ waiting_in s.answer ++ packets (at_send prefix names (stage_of s.server) bytes (some_wait (waiting_in s.answer))).says

-- In the list of seats

-- one seat is another now, to which the old one stands so, and each other stays
pub record AtSeat (so : Seat → Seat → Type 0) (seats : List Seat) (at : ℕ) (seats' : List Seat) : Type 0 where
  pub seat : Seat
  pub placed : seats' ≡ slice_set seats at seat
  pub done : (d : Seat) → so (slice_index_or seats at d) seat

-- n bytes are taken that wait at a seat, and lie over the front of an area
pub record TakesAt (seats : List Seat) (at : ℕ) (area : List ℕ) (n : ℕ) (seats' : List Seat) (area' : List ℕ) : Type 0 where
  pub takes : AtSeat (λ s s'. Takes s n s') seats at seats'
  pub len : (d : Seat) → n ≡ min (length (waiting_in (slice_index_or seats at d).answer)) (length area)
  pub laid : (d : Seat) → area' ≡ take n (waiting_in (slice_index_or seats at d).answer) ++ drop n area
