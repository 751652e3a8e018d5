use Rattle.host.proofs.Exits.{told_err}
use Rattle.client.proofs.Invokes.{body_stop, body_end}
use Rattle.client.proofs.inner.send_body.Goals as goal

pub returns-in_err-send_content : goal.returns-in_err-send_content
returns-in_err-send_content g c =
    body_stop c.args.content.now _ _ c.in_err-send_content.ensures.goes (told_err c.from_residual.result c.from_residual.ensures.1)

pub returns : goal.returns
returns g c = body_end c.args.content.now _ c.in_ok-send_content.ensures.goes c.send_flush.ensures
