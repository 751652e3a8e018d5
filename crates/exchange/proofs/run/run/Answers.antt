use Rattle.std.proofs.Common.{arith}
use Rattle.exchange.proofs.Running.{rooms_kept, worked_none, worked_more, worked_all, lent_so}
use Rattle.exchange.proofs.run.run.Goals as goal

pub loop-i-init : goal.loop-i-init
loop-i-init g c = worked_none g.H.Host.capacity _ c.args.exchange.now _ _ _ c.new-table.result.records.places c.new-table.ensures

pub loop-i-preserved : goal.loop-i-preserved
loop-i-preserved g c =
    let e = c.loop-i.auto.exchange in
    let h = c.loop-i-test.true in
    worked_more c.loop-i.invariant (omega arith) c.index-exchange-i.result
    (lent_so _ c.loop-i.auto.rows c.loop-i.auto.text (rooms_kept c.args.work.now c.args.status.now c.loop-i.work c.loop-i.status c.loop-i.auto.work c.loop-i.auto.status) c.make-answer.ensures.made)
    c.make-answer.result c.make-answer.ensures.told

pub returns-clause-runs : goal.returns-clause-runs
returns-clause-runs g c = let e = c.loop-i.auto.exchange in let h = c.loop-i-test.false in worked_all c.loop-i.invariant h (omega arith)
