use Rattle.std.proofs.Common.{refl, arith}
use Rattle.host.proofs.Exits.{told_err}
use Rattle.host.proofs.Peering.{begun, sent_more, sent_stop}
use Rattle.handshake.specs.Judged.{capability_line}
use Rattle.process.proofs.Lines.{lines_last, sent_last}
use Rattle.handshake.proofs.Places.{names_next}
use Rattle.handshake.proofs.parts.send_desired.Goals as goal

pub loop-name-init : goal.loop-name-init
loop-name-init g c = begun refl

pub returns-in_err-send_pair : goal.returns-in_err-send_pair
returns-in_err-send_pair g c =
    let next = names_next c.args.names.now c.loop-name.name-index c.name-item.result c.as_bytes.result.now (omega arith) c.name-item.is c.as_bytes.ensures.value in
    sent_stop c.loop-name.invariant next _ _ c.in_err-send_pair.ensures (told_err c.from_residual.result c.from_residual.ensures.1)

pub loop-name-preserved : goal.loop-name-preserved
loop-name-preserved g c =
    let next = names_next c.args.names.now c.loop-name.name-index c.name-item.result c.as_bytes.result.now (omega arith) c.name-item.is c.as_bytes.ensures.value in
    sent_more c.loop-name.invariant next c.in_ok-send_pair.ensures

pub returns : goal.returns
returns g c =
    sent_last c.loop-name.invariant (lines_last capability_line c.args.names.now c.loop-name.name-index (omega arith)) c.send_flush.ensures
