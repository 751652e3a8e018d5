use Rattle.std.proofs.Common.{arith}
use Rattle.host.proofs.Exits.{told_err}
use Rattle.mirror.proofs.Drafting.{uncommanded}
use Rattle.mirror.proofs.draft.Draft.begin.Goals as goal

pub returns-in_err-len : goal.returns-in_err-len
returns-in_err-len c =
    uncommanded c.args.self.now.text c.args.line.now _ (omega arith) c.store_command.result c.store_command.ensures _ c.in_err-len.was c.from_residual.result (told_err c.from_residual.result c.from_residual.ensures.1) _
