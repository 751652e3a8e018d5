use Rattle.packetline.proofs.Trims.{padded_more}
use Rattle.packetline.proofs.metadata.trim_side.Goals as goal

pub loop-less-preserved : goal.loop-less-preserved
loop-less-preserved c =
    padded_more c.args.side c.args.line.now c.loop-less.trimmed.now c.in-Some.less.now c.loop-less.invariant c.in-Some.ensures.0
