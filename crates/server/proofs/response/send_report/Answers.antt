use Rattle.host.proofs.Exits.{told_err}
use Rattle.server.proofs.Reports.{named_stop, named_said, previous_said}
use Rattle.server.proofs.response.send_report.Goals.{in-Named+in_ok-send_pair, in_default}
use Rattle.server.proofs.response.send_report.Goals as goal

pub returns-in_err-send_pair : goal.returns-in_err-send_pair
returns-in_err-send_pair g c =
    named_stop c.args.report c.in-Named.name c.in-Named.is _ c.from_residual.result c.in_err-send_pair.ensures (told_err c.from_residual.result c.from_residual.ensures.1)

pub returns : goal.returns
returns g c =
    elim c.match-report.branch [
      | in-Named+in_ok-send_pair w ↦ named_said c.args.report w.in-Named.name w.in-Named.is _ w.in_ok-send_pair.ensures w.peer-is c.send_flush.ensures
      | in_default w ↦ previous_said c.args.report w.in_default.is w.peer-is c.send_flush.ensures
    ]
