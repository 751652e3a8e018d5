use Rattle.std.proofs.Common.{rules}
use Rattle.driver.proofs.Applying.{answered_so, lost_so}
use Rattle.driver.proofs.apply.give.Goals as goal

pub returns-in-Ok : goal.returns-in-Ok
returns-in-Ok g c = answered_so c.may_answer_later-allowed.result c.may_answer_later-allowed.ensures (search rules) c.in-Ok.status (c.in-Ok.ensures c.args.delay) c.after_apply.ensures

pub returns-in-Err : goal.returns-in-Err
returns-in-Err g c = lost_so c.may_answer_later-allowed.result c.may_answer_later-allowed.ensures (search rules) c.in-Err.fault (c.in-Err.ensures c.args.delay) c.after_fault.ensures
