use Rattle.std.proofs.Common.{◌≡◌, ◌++◌, length, vec_items}
use Rattle.recording.specs.Shown.{escaped, AllBytes}
use Rattle.recording.proofs.show.read_back.Given as goal

abbrev pub invariant-loop-rest : goal.invariant-loop-rest
invariant-loop-rest l = (l.text ≡ escaped (vec_items l.bytes) ++ l.rest) × AllBytes (vec_items l.bytes)

abbrev pub decreases-loop-rest : goal.decreases-loop-rest
decreases-loop-rest l = length l.rest
