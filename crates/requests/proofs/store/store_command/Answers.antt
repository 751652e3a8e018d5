use Rattle.std.proofs.Common.{sym, arith}
use Rattle.requests.proofs.Lines.{command_stored}
use Rattle.requests.proofs.store.store_command.Goals as goal

pub returns : goal.returns
returns c = command_stored _ _ c.in-Some.command.now (sym c.in-Some.ensures.value) _ (omega arith) c.lay.ensures
