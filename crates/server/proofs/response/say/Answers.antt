use Rattle.std.proofs.Common.{arith, rules}
use Rattle.host.proofs.Exits.{told_err}
use Rattle.server.proofs.Reports.{report_right}
use Rattle.server.proofs.Sent.{back_says}
use Rattle.server.proofs.response.say.Goals as goal

pub returns-in_err-send_report : goal.returns-in_err-send_report
returns-in_err-send_report g c =
    rw (told_err c.from_residual.result c.from_residual.ensures.1) (report_right c.args.work.now c.args.report (omega arith) (search rules), back_says g.H.Host.log g.H.Host.world _ _ c.in_err-send_report.ensures (search rules) (search rules))

pub returns : goal.returns
returns g c = (report_right c.args.work.now c.args.report (omega arith) (search rules), back_says g.H.Host.log g.H.Host.world _ _ c.in_ok-send_report.ensures (search rules) (search rules))
