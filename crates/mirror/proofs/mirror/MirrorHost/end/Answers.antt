use Rattle.std.proofs.Common.{arith}
use Rattle.mirror.specs.Memory.{prefix_of}
use Rattle.mirror.proofs.Mirroring.{open_there, ends}
use Rattle.mirror.proofs.mirror.MirrorHost.end.Goals as goal

pub returns-then-is_open-clause-goes : goal.returns-then-is_open-clause-goes
returns-then-is_open-clause-goes c =
    let m = c.args.self.now in
    let s = c.end_at.ensures.seat in
    let o = open_there m c.args.process c.is_open.result c.is_open.ensures c.if-is_open.true in
    ends (prefix_of m.house) m.house.names m.seats m.count (omega arith) (omega arith) c.args.process o.0 s (o.1 s) c.end_at.new.seats c.end_at.ensures
