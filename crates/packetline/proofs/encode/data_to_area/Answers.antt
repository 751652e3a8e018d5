use Rattle.std.proofs.Common.{arith, rules}
use Rattle.packetline.specs.Packets.{line}
use Rattle.packetline.proofs.Framing.{framed}
use Rattle.packetline.proofs.encode.data_to_area.Goals as goal

pub returns : goal.returns
returns c =
    framed (line c.args.payload.now) c.args.area.now c.lay_data.new.area c.lay_data.result (search rules) (omega arith)
    c.lay_data.ensures.len c.lay_data.ensures.laid
