use Rattle.packetline.proofs.Decimals.{Spelled}
use Rattle.packetline.proofs.text.decimal.Given as goal

abbrev pub invariant-loop-left : goal.invariant-loop-left
invariant-loop-left l = Spelled l.n l.left l.at l.initial.digits l.digits

abbrev pub decreases-loop-left : goal.decreases-loop-left
decreases-loop-left l = l.left
