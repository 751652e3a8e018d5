use Rattle.std.proofs.Common.{refl, arith}
use Rattle.host.proofs.Exits.{told_err}
use Rattle.host.proofs.Peering.{begun, sent_more, sent_stop}
use Rattle.process.proofs.Lines.{sent_last, sent_then}
use Rattle.client.specs.Requests.{request}
use Rattle.client.proofs.Pairs.{request_first, meta_next, meta_last, meta_short}
use Rattle.client.proofs.inner.send_request.Goals as goal

pub returns-in_err-send_pair : goal.returns-in_err-send_pair
returns-in_err-send_pair g c =
    let next = request_first c.args.command.now c.args.meta.now in
    sent_stop (begun {left = request c.args.command.now c.args.meta.now} refl) next _ _ c.in_err-send_pair.ensures (told_err c.from_residual.result c.from_residual.ensures.1)

pub loop-row-init : goal.loop-row-init
loop-row-init g c = begun refl

pub send_pair-requires-in-loop-row : goal.send_pair-requires-in-loop-row
send_pair-requires-in-loop-row g c = meta_short c.args.command.now c.args.meta.now c.loop-row.row-index c.requires c.loop-row-test.true

pub returns-in_err-send_pair-2 : goal.returns-in_err-send_pair-2
returns-in_err-send_pair-2 g c =
    let first = request_first c.args.command.now c.args.meta.now in
    let next = meta_next c.args.meta.now c.loop-row.row-index (omega arith) in
    sent_then first c.in_ok-send_pair.ensures (sent_stop c.loop-row.invariant next _ _ c.in_err-send_pair-2.ensures (told_err c.from_residual-in_err-send_pair-2.result c.from_residual-in_err-send_pair-2.ensures.1))

pub loop-row-preserved : goal.loop-row-preserved
loop-row-preserved g c =
    let next = meta_next c.args.meta.now c.loop-row.row-index (omega arith) in
    sent_more c.loop-row.invariant next c.in_ok-send_pair-2.ensures

pub returns : goal.returns
returns g c =
    let first = request_first c.args.command.now c.args.meta.now in
    sent_then first c.in_ok-send_pair.ensures (sent_last c.loop-row.invariant (meta_last c.args.meta.now c.loop-row.row-index (omega arith)) c.send_flush.ensures)
