use Rattle.std.proofs.Common.{refl, arith}
use Rattle.packetline.specs.Packets.{flush}
use Rattle.packetline.proofs.Framing.{framed}
use Rattle.packetline.proofs.encode.flush_to_area.Goals as goal

pub returns : goal.returns
returns c =
    framed flush c.args.area.now c.lay_flush.new.area c.lay_flush.result refl (omega arith)
    c.lay_flush.ensures.len c.lay_flush.ensures.laid
