use Rattle.std.proofs.Common.{◌<◌, length, sym, refl, arith}
use Rattle.scripts.proofs.Scripted.{starts, newcomer, there}
use Rattle.scripts.proofs.script.ScriptHost.start.Goals as goal

pub returns-clause-goes : goal.returns-clause-goes
returns-clause-goes c =
    let s = c.args.self.now in
    starts s.bytes.now s.unused s.started s.count c.args.command.now (omega arith) c.in-Some.i c.if-number-ge16.false c.in-Some.ensures.inside c.in-Some.ensures.value

pub returns-clause-plays : goal.returns-clause-plays
returns-clause-plays c =
    let s = c.args.self.now in
    let i = c.in-Some.i in
    let few : s.count < 16 = c.if-number-ge16.false in
    let here : i < length s.unused = c.in-Some.ensures.inside in
    let is = c.in-Some.ensures.value in
    let row = there s.bytes.now s.unused s.started s.count c.args.command.now (omega arith) i few here is in
    (i, row.0, (sym is, row.1, newcomer s.bytes.now s.unused s.started s.count c.args.command.now (omega arith) i few here is, refl, refl))
