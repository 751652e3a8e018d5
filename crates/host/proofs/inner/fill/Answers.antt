use Rattle.std.proofs.Common.{refl, arith}
use Rattle.host.proofs.Exits.{told_err}
use Rattle.host.proofs.Fills.{came_none, came_more, came_stop, came_all, logs_more, logs_stop, logs_all}
use Rattle.host.proofs.Logging.{brought_none}
use Rattle.host.proofs.inner.fill.Goals as goal

pub loop-got-init : goal.loop-got-init
loop-got-init g c = (came_none _ _ _, brought_none _ _)

pub returns-in_err-got : goal.returns-in_err-got
returns-in_err-got g c =
    let i = c.loop-got.invariant in
    let s = c.in_err-got.ensures in
    record {
      goes = came_stop _ _ _ _ _ _ i.0 _ _ _ _ (omega arith) s.goes (told_err c.from_residual.result c.from_residual.ensures.1);
      logs = logs_stop _ _ _ _ _ _ i.0 _ _ _ i.1 _ _ _ _ (omega arith) s.goes s.logs;
    }

pub loop-got-preserved : goal.loop-got-preserved
loop-got-preserved g c =
    let i = c.loop-got.invariant in
    let s = c.in_ok-got.ensures in
    (came_more _ _ _ _ _ _ i.0 _ _ _ s.goes, logs_more _ _ _ _ _ _ i.0 _ _ _ i.1 _ _ _ _ s.goes s.logs)

pub returns : goal.returns
returns g c =
    let i = c.loop-got.invariant in
    record {
      goes = came_all _ _ _ _ _ _ i.0 _ (omega arith) refl;
      logs = logs_all _ _ _ _ _ _ i.0 _ _ (g.H.Host.log c.loop-got.host) i.1 (omega arith);
    }
