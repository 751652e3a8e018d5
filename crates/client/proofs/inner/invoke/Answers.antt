use Rattle.std.proofs.Common.{refl}
use Rattle.host.proofs.Exits.{told_err}
use Rattle.host.proofs.Peering.{same_then, later}
use Rattle.process.proofs.Peering.{later_with}
use Rattle.client.proofs.Invokes.{invoke_unasked, invoke_unsent, invoke_untold, invoke_told}
use Rattle.client.proofs.inner.invoke.Goals as goal

pub returns-in_err-send_request : goal.returns-in_err-send_request
returns-in_err-send_request g c =
    let s = c.in_err-send_request.ensures in
    record {
      lent = s.lent;
      same_area = refl;
      talks = invoke_unasked c.args.command.now c.args.meta.now c.args.content.now _ _ _ _ _ _ _ _ s.talks (told_err c.from_residual.result c.from_residual.ensures.1);
    }

pub returns-in_err-send_body : goal.returns-in_err-send_body
returns-in_err-send_body g c =
    let s = c.in_ok-send_request.ensures in
    let t = c.in_err-send_body.ensures in
    record {
      lent = same_then s.lent t.lent;
      same_area = refl;
      talks = invoke_unsent c.args.command.now c.args.meta.now c.args.content.now _ _ _ _ _ _ _ s.talks _ _ _ _ (later s.lent t) (told_err c.from_residual-in_err-send_body.result c.from_residual-in_err-send_body.ensures.1);
    }

pub returns-in_err-read_status : goal.returns-in_err-read_status
returns-in_err-read_status g c =
    let s = c.in_ok-send_request.ensures in
    let t = c.in_ok-send_body.ensures in
    let lent = same_then s.lent t.lent in
    let u = c.in_err-read_status.ensures in
    record {
      lent = same_then lent u.lent;
      same_area = u.same_area;
      talks = invoke_untold c.args.command.now c.args.meta.now c.args.content.now _ _ _ _ _ _ _ s.talks _ _ _ (later s.lent t) _ _ _ _ _ (later_with lent u) (told_err c.from_residual-in_err-read_status.result c.from_residual-in_err-read_status.ensures.1);
    }

pub returns : goal.returns
returns g c =
    let s = c.in_ok-send_request.ensures in
    let t = c.in_ok-send_body.ensures in
    let lent = same_then s.lent t.lent in
    let u = c.in_ok-read_status.ensures in
    record {
      lent = same_then lent u.lent;
      same_area = u.same_area;
      talks = invoke_told c.args.command.now c.args.meta.now c.args.content.now _ _ _ _ _ _ _ s.talks _ _ _ (later s.lent t) _ _ _ _ _ (later_with lent u) c.as_first.ensures;
    }
