use Rattle.std.proofs.Common.{sym, ◌∙◌, arith}
use Rattle.std.proofs.lemmas.Bool.Decides.{nat_tests}
use Rattle.mirror.specs.Memory.{prefix_of}
use Rattle.mirror.proofs.Mirroring.{open_there, nothing_there, receives}
use Rattle.mirror.proofs.mirror.MirrorHost.receive.Goals as goal

pub returns-then-not-waits-clause-goes : goal.returns-then-not-waits-clause-goes
returns-then-not-waits-clause-goes c =
    let m = c.args.self.now in
    let s = c.index-self-process.result in
    let o = open_there m c.args.process c.is_open.result c.is_open.ensures c.if-not-is_open.false in
    nothing_there (prefix_of m.house) m.house.names m.seats m.count (omega arith) (omega arith) c.args.process o.0 s (o.1 s) c.args.area.now (grind (arith, nat_tests))
    (sym c.waits.ensures ∙ c.if-not-waits.true)

pub returns-clause-goes : goal.returns-clause-goes
returns-clause-goes c =
    let m = c.args.self.now in
    let s = c.index-self-process.result in
    let o = open_there m c.args.process c.is_open.result c.is_open.ensures c.if-not-is_open.false in
    receives (prefix_of m.house) m.house.names m.seats m.count (omega arith) (omega arith) c.args.process o.0 s (o.1 s) c.args.area.now _ _ _ (grind (arith, nat_tests))
    (sym c.waits.ensures ∙ c.if-not-waits.false) c.receive_at.ensures
