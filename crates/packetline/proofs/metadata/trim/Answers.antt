use Rattle.std.proofs.Common.{ap, ◌∙◌}
use Rattle.packetline.specs.declared.metadata.Side.TheVariants.{Front, Back}
use Rattle.packetline.specs.Metadata.{trim_at}
use Rattle.packetline.proofs.Trims.{trim_at_is}
use Rattle.packetline.proofs.metadata.trim.Goals as goal

pub returns-clause-value : goal.returns-clause-value
returns-clause-value c =
    let s = c.trim_side.result.now in
    let f = c.trim_side.ensures in
    let b = c.trim_side-2.ensures in
    trim_at_is Back s c.trim_side-2.result.now b.0 b.1 ∙ ap (trim_at Back) (trim_at_is Front c.args.line.now s f.0 f.1)
