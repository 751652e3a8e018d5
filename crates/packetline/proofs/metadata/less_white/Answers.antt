use Rattle.std.proofs.Common.{arith}
use Rattle.packetline.proofs.Trims.{bare_from, padded_part}
use Rattle.packetline.proofs.metadata.less_white.Goals as goal

pub returns-then-is_blank : goal.returns-then-is_blank
returns-then-is_blank c =
    padded_part c.args.side c.loop-n.n c.args.line.now c.split.result.0.now c.split.result.1.now
    c.split.ensures c.if-is_blank.ensures c.loop-n.auto.n c.if-n-line.true

pub returns : goal.returns
returns c = bare_from c.args.side c.args.line.now (λ n l h. c.loop-n.invariant n l (omega arith))
