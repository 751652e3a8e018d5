-- What the readers of packets answer.
use Rattle.std.specs.Prelude.{◌≡◌, ℕ, ◌≤◌, List, length, take, drop, Some, None, Ok, Err, Option, Result, ◌≢◌}
use Rattle.std.specs.Borrow.{Bor}
use Rattle.packetline.specs.declared.decode.Error.{Error}
use Rattle.packetline.specs.declared.decode.Error.TheVariants.{BadHeader}
use Rattle.packetline.specs.declared.decode.Complete.{Complete}
use Rattle.packetline.specs.declared.decode.Tally.{Tally}
use Rattle.packetline.specs.declared.packet.Packet.{Packet}
use Rattle.packetline.specs.declared.packet.Packet.TheVariants.{Data, Flush, Delimiter, ResponseEnd}
use Rattle.packetline.specs.Packets.{Pkt, flush, delimiter, response_end, line, Front, whole, short, fronted, front, decode, flushes}

abbrev pub decode_number : Error → ℕ
decode_number BadHeader = 20

-- a packet as it was read
abbrev pub pkt : Packet (Bor (List ℕ)) → Pkt
pkt (Data payload) = line payload.now
pkt Flush = flush
pkt Delimiter = delimiter
pkt ResponseEnd = response_end

-- what a reader answered of the front of bytes
abbrev pub front_told : Result (Option Complete) Error → List ℕ → Front
front_told (Ok (Some c)) bytes = whole (pkt c.line) (take c.bytes_consumed bytes) (drop c.bytes_consumed bytes)
front_told (Ok None) bytes = short
front_told (Err e) bytes = fronted (Err (decode_number e)) bytes

-- a packet that is whole lies within the bytes, and so do four bytes that are no header
abbrev pub Within : Result (Option Complete) Error → List ℕ → Type 0
Within (Ok (Some c)) bytes = (4 ≤ c.bytes_consumed) × (c.bytes_consumed ≤ length bytes)
Within (Ok None) bytes = Unit {0}
Within (Err e) bytes = 4 ≤ length bytes

-- one packet of an iteration: the packet at the front and what follows it, or none where no whole packet stands there
abbrev pub Next : List ℕ → Option (Packet (Bor (List ℕ))) → List ℕ → Type 0
Next bytes None bytes' = (bytes' ≡ bytes) × ((p : Pkt) (taken rest : List ℕ) → front bytes ≢ whole p taken rest)
Next bytes (Some x) bytes' = (taken : List ℕ) × (front bytes ≡ whole (pkt x) taken bytes')

-- what was counted of a byte string
pub record Counted (bytes : List ℕ) (t : Tally) : Type 0 where
  pub packets_are : t.packets ≡ length (decode bytes).packets
  pub flushes_are : t.flushes ≡ flushes bytes
  pub left_is : drop t.bytes_consumed bytes ≡ (decode bytes).left
  pub within : t.bytes_consumed ≤ length bytes
