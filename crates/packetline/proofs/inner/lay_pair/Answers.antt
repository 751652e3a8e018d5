use Rattle.std.proofs.Common.{arith}
use Rattle.packetline.proofs.Laying.{pair_laid}
use Rattle.packetline.proofs.inner.lay_pair.Goals as goal

pub returns-clause-laid : goal.returns-clause-laid
returns-clause-laid c =
    pair_laid c.args.left.now c.args.sign c.args.right.now c.args.area.now c.lay_header.new.area _ _ (omega arith)
    c.lay_header.ensures c.copy_from_slice.ensures.after c.copy_from_slice-2.ensures.after
