use Rattle.std.proofs.Common.{[]}
use Rattle.host.proofs.Exits.{told_err}
use Rattle.requests.proofs.Calls.{later_meta, first_is, no_request, first_error, command_room, request_error, request_read}
use Rattle.requests.proofs.inner.next_request.Goals as goal

pub returns-in_err-command-clause-reads : goal.returns-in_err-command-clause-reads
returns-in_err-command-clause-reads g c status =
    first_error _ _ _ _ _ _ _ _ c.read_command.result (c.read_command.ensures.reads status) _ c.in_err-command.was c.from_residual.result (told_err c.from_residual.result c.from_residual.ensures.1)

pub returns-in_default-clause-reads : goal.returns-in_default-clause-reads
returns-in_default-clause-reads g c status = no_request _ _ _ _ _ _ _ _ (first_is c.in_default.is (c.in_ok-command.ensures.reads status))

pub read_meta-requires : goal.read_meta-requires
read_meta-requires g c = command_room c.args.rows.now _ _ _ _ _ _ _ _ (first_is c.in-Some.is (c.in_ok-command.ensures.reads []))

pub returns-in_err-pairs-clause-reads : goal.returns-in_err-pairs-clause-reads
returns-in_err-pairs-clause-reads g c status =
    request_error _ _ _ _ _ _ _ _ _ (first_is c.in-Some.is (c.in_ok-command.ensures.reads status)) _ _ _ _
    c.read_meta.result (later_meta c.read_command.ensures.lent (c.read_meta.ensures.reads status)) _ c.in_err-pairs.was
    c.from_residual-in_err-pairs.result (told_err c.from_residual-in_err-pairs.result c.from_residual-in_err-pairs.ensures.1)

pub returns-clause-reads : goal.returns-clause-reads
returns-clause-reads g c status =
    request_read _ _ _ _ _ _ _ _ _ (first_is c.in-Some.is (c.in_ok-command.ensures.reads status)) _ _ _ _ _
    (later_meta c.read_command.ensures.lent (c.in_ok-pairs.ensures.reads status))
