use Rattle.std.proofs.Common.{length}
use Rattle.packetline.specs.Metadata.{Padded}
use Rattle.packetline.proofs.metadata.trim_side.Given as goal

abbrev pub invariant-loop-less : goal.invariant-loop-less
invariant-loop-less l = Padded l.side l.line l.trimmed

abbrev pub decreases-loop-less : goal.decreases-loop-less
decreases-loop-less l = length l.trimmed
