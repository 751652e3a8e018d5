use Rattle.std.proofs.Common.{rules}
use Rattle.host.proofs.Exits.{told_err}
use Rattle.server.proofs.server.ask.Goals as goal

pub returns-in_err-next_request : goal.returns-in_err-next_request
returns-in_err-next_request g c = rw (told_err c.from_residual.result c.from_residual.ensures.1) (search rules)
