use Rattle.packetline.proofs.Decoding.{SoFar}
use Rattle.packetline.proofs.decode.count.Given as goal

abbrev pub invariant-loop-line : goal.invariant-loop-line
invariant-loop-line l =
    (goal.iterator-loop-line).can_next l.lines × (goal.iterator-loop-line).is_finite l.lines × SoFar l.bytes l.packets l.flushes l.lines.unread.now
