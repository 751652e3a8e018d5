use Rattle.std.proofs.Common.{◌∙◌}
use Rattle.host.proofs.Exits.{told_err}
use Rattle.server.proofs.Wholes.{whole_done, open_checked, ended_checked}
use Rattle.server.proofs.response.Response.write_all.Goals as goal

pub returns-in_err-flush-in-Ok-clause-goes : goal.returns-in_err-flush-in-Ok-clause-goes
returns-in_err-flush-in-Ok-clause-goes g c =
    let s = rw c.writing.ensures at c.in-Ok.ensures.goes in
    let t = rw (c.in-Ok.ensures.itself ∙ c.writing.ensures) at c.in_err-flush-in-Ok.ensures.goes in
    rw (told_err c.from_residual.result c.from_residual.ensures.1) (ended_checked c.args.bytes.now _ _ c.args.work.now _ _ _ _ _ s.0 c.write.auto.work s.1.0 _ s.1.1 _ _ c.in_err-flush-in-Ok.field-0.0 t)

pub returns-in_ok-flush-in-Ok-clause-goes : goal.returns-in_ok-flush-in-Ok-clause-goes
returns-in_ok-flush-in-Ok-clause-goes g c =
    let s = rw c.writing.ensures at c.in-Ok.ensures.goes in
    let t = rw (c.in-Ok.ensures.itself ∙ c.writing.ensures) at c.in_ok-flush-in-Ok.ensures.goes in
    (s.0, (s.1.0, whole_done c.args.bytes.now _ _ _ _ _ _ s.1.1 _ _ c.in_ok-flush-in-Ok.field-0 _ t.1))

pub returns-in-Err-clause-goes : goal.returns-in-Err-clause-goes
returns-in-Err-clause-goes g c = open_checked c.args.bytes.now _ _ _ _ _ _ _ _ c.in-Err.refused c.in-Err.refused.why (rw c.writing.ensures at c.in-Err.ensures.goes)
