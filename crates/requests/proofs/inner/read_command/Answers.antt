use Rattle.std.proofs.Common.{take}
use Rattle.host.proofs.Exits.{told_err}
use Rattle.requests.proofs.FirstLines.{first_fault, first_flush, first_refused, first_stored}
use Rattle.requests.proofs.inner.read_command.Goals as goal

pub returns-in-Err-clause-reads : goal.returns-in-Err-clause-reads
returns-in-Err-clause-reads g c status =
    first_fault _ _ _ _ status _ _ _ c.in-Err.fault c.in-Err.ensures.goes.talks (c.unasked.ensures (λ n. take n c.args.text.now))

pub returns-in_default-clause-reads : goal.returns-in_default-clause-reads
returns-in_default-clause-reads g c status = first_flush _ _ _ _ status _ _ _ c.in-Ok.ensures.goes.talks c.in_default.is

pub returns-in_err-len-clause-reads : goal.returns-in_err-len-clause-reads
returns-in_err-len-clause-reads g c status =
    first_refused _ _ _ _ status _ _ _ c.in-Ok.ensures.goes.talks _ c.in-Some.is _ c.front.ensures _ c.store_command.result c.store_command.ensures _ c.in_err-len.was
    c.from_residual.result (told_err c.from_residual.result c.from_residual.ensures.1)

pub returns-clause-reads : goal.returns-clause-reads
returns-clause-reads g c status =
    first_stored _ _ _ _ status _ _ _ c.in-Ok.ensures.goes.talks _ c.in-Some.is _ c.front.ensures _ c.in_ok-len.len c.in_ok-len.ensures
