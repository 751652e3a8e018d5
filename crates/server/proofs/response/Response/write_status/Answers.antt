use Rattle.server.proofs.Tells.{is_told}
use Rattle.server.proofs.response.Response.write_status.Goals as goal

pub returns-in-Ok-clause-meant : goal.returns-in-Ok-clause-meant
returns-in-Ok-clause-meant g c = is_told c.args.report

pub returns-in-Err-clause-meant : goal.returns-in-Err-clause-meant
returns-in-Err-clause-meant g c = is_told c.args.report
