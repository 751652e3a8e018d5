use Rattle.std.proofs.Common.{◌≡◌, ◌*◌, take, vec_items}
use Rattle.recording.specs.Shown.{AllBytes}
use Rattle.recording.specs.Recorded.{hex_of}
use Rattle.recording.proofs.line.hex_bytes.Given as goal

abbrev pub invariant-loop-high : goal.invariant-loop-high
invariant-loop-high l = (take (2 * l.high-index) l.digits ≡ hex_of (vec_items l.bytes)) × AllBytes (vec_items l.bytes)
