use Rattle.std.proofs.Common.{◌≡◌, map, length, min, ap, ◌∙◌, arith, rules}
use Rattle.std.proofs.lemmas.List.{drop_all}
use Rattle.host.proofs.Exits.{told_err}
use Rattle.packetline.specs.Packets.{line}
use Rattle.host.specs.Parts.{parts}
use Rattle.host.proofs.Peering.{begun, sent_more, sent_stop, sent_all}
use Rattle.host.proofs.Parts.{parts_next, parts_none, parted}
use Rattle.host.proofs.peer.Peer.send_content.Goals as goal

pub loop-part-init : goal.loop-part-init
loop-part-init g c =
    let rest : c.into_iter-part-iterator.result.rest.now ≡ c.args.content.now = cc in
    (search rules, begun (ap (λ x. map line (parts x)) rest))

pub returns-in_err-send_packet : goal.returns-in_err-send_packet
returns-in_err-send_packet g c =
    let s = c.in-Some.ensures.steps in
    let next = parts_next _ _ _ s.1.0 (s.1.1 ∙ ap (λ n. min n (length c.loop-part.part-iterator.rest.now)) c.loop-part.invariant.0) s.1.2 in
    record { goes = sent_stop c.loop-part.invariant.1 next _ _ c.in_err-send_packet.ensures (told_err c.from_residual.result c.from_residual.ensures.1); law = parted _ }

pub loop-part-preserved : goal.loop-part-preserved
loop-part-preserved g c =
    let s = c.in-Some.ensures.steps in
    let next = parts_next _ _ _ s.1.0 (s.1.1 ∙ ap (λ n. min n (length c.loop-part.part-iterator.rest.now)) c.loop-part.invariant.0) s.1.2 in
    (s.0 ∙ c.loop-part.invariant.0, sent_more c.loop-part.invariant.1 next c.in_ok-send_packet.ensures)

pub returns : goal.returns
returns g c =
    let s = c.in-None.ensures.steps in
    record { goes = sent_all c.loop-part.invariant.1 (parts_none _ (drop_all 0 _ (omega arith))); law = parted _ }
