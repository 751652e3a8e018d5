use Rattle.std.proofs.Common.{[], map, refl, ap, arith}
use Rattle.std.proofs.lemmas.List.{drop_all}
use Rattle.host.proofs.Exits.{told_err}
use Rattle.packetline.specs.Packets.{line_pkt}
use Rattle.host.proofs.Peering.{begun, sent_more, sent_stop, sent_all}
use Rattle.host.proofs.Sends.{lines_more, each_sendable}
use Rattle.host.proofs.peer.Peer.send_lines.Goals as goal

pub loop-line-init : goal.loop-line-init
loop-line-init g c = begun refl

pub send_line-requires : goal.send_line-requires
send_line-requires g c =
    each_sendable (λ x. line_pkt x.now) c.args.lines.now c.loop-line.line-index (record { ref_ptr = (0, 0); now = [] }) c.requires c.loop-line-test.true

pub returns-in_err-send_line : goal.returns-in_err-send_line
returns-in_err-send_line g c =
    let next = lines_more (λ x. line_pkt x.now) c.args.lines.now c.loop-line.line-index (record { ref_ptr = (0, 0); now = [] }) (omega arith) in
    sent_stop c.loop-line.invariant next _ _ c.in_err-send_line.ensures (told_err c.from_residual.result c.from_residual.ensures.1)

pub loop-line-preserved : goal.loop-line-preserved
loop-line-preserved g c =
    let next = lines_more (λ x. line_pkt x.now) c.args.lines.now c.loop-line.line-index (record { ref_ptr = (0, 0); now = [] }) (omega arith) in
    sent_more c.loop-line.invariant next c.in_ok-send_line.ensures

pub returns : goal.returns
returns g c = sent_all c.loop-line.invariant (ap (map (λ x. line_pkt x.now)) (drop_all c.loop-line.line-index c.args.lines.now (omega arith)))
