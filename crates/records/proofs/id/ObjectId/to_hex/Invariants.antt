use Rattle.std.proofs.Common.{◌≡◌, ◌*◌, length, take}
use Rattle.records.specs.Ids.{id_digits}
use Rattle.records.proofs.id.ObjectId.to_hex.Given as goal

abbrev pub invariant-loop-i : goal.invariant-loop-i
invariant-loop-i l = record { room : length l.digits ≡ 40; done : take (2 * l.i) l.digits ≡ id_digits (take l.i l.self.bytes) }
