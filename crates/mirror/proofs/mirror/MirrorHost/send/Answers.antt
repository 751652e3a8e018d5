use Rattle.std.proofs.Common.{codes, arith}
use Rattle.mirror.specs.Memory.{prefix_of}
use Rattle.mirror.specs.Worlds.{world_of}
use Rattle.host.proofs.Hosts.{sent_gone}
use Rattle.mirror.proofs.Going.{goes_on}
use Rattle.mirror.proofs.Mirroring.{open_there, gone_there, refuses, sends, sends_on}
use Rattle.mirror.proofs.mirror.MirrorHost.send.Goals as goal

pub returns-then-not-is_open-clause-goes : goal.returns-then-not-is_open-clause-goes
returns-then-not-is_open-clause-goes c =
    let m = c.args.self.now in
    sent_gone (world_of m) c.args.process c.args.bytes.now (gone_there m c.args.process c.is_open.result c.is_open.ensures c.if-not-is_open.true)

pub returns-then-bytes-self-clause-goes : goal.returns-then-bytes-self-clause-goes
returns-then-bytes-self-clause-goes c =
    let m = c.args.self.now in
    let s = c.index-self-process.result in
    let o = open_there m c.args.process c.is_open.result c.is_open.ensures c.if-not-is_open.false in
    refuses (prefix_of m.house) m.house.names m.seats m.count (omega arith) (omega arith) c.args.process o.0 s (o.1 s) c.args.bytes.now c.if-bytes-self.true

pub returns-clause-goes : goal.returns-clause-goes
returns-clause-goes c =
    let m = c.args.self.now in
    let s = c.index-self-process.result in
    let o = open_there m c.args.process c.is_open.result c.is_open.ensures c.if-not-is_open.false in
    sends (prefix_of m.house) m.house.names m.seats m.count (omega arith) (omega arith) c.args.process o.0 s (o.1 s) c.args.bytes.now c.if-bytes-self.false c.send_at.new.seats c.send_at.ensures

pub returns-clause-mirrors : goal.returns-clause-mirrors
returns-clause-mirrors c =
    let m = c.args.self.now in
    let s = c.index-self-process.result in
    let o = open_there m c.args.process c.is_open.result c.is_open.ensures c.if-not-is_open.false in
    λ names x n k at one. (
      sends_on (prefix_of m.house) m.house.names m.seats m.count (omega arith) (omega arith) c.args.process o.0 s (o.1 s) c.args.bytes.now c.if-bytes-self.false c.send_at.new.seats c.send_at.ensures (codes "git-filter") names x n k at one,
      goes_on (codes "git-filter") names x k,
    )
