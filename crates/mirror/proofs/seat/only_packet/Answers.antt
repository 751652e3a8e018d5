use Rattle.std.proofs.Common.{Some, ◌∙◌, sym, ap}
use Rattle.mirror.proofs.Seating.{not_only}
use Rattle.mirror.proofs.seat.only_packet.Goals as goal

pub returns-then-packet-bytes : goal.returns-then-packet-bytes
returns-then-packet-bytes c =
    not_only c.streaming.result c.args.bytes.now c.in_ok-packet.packet (sym c.ok.ensures.value ∙ c.in_ok-ok.was ∙ ap Some c.in_ok-packet.was) c.streaming.ensures.value c.if-packet-bytes.true
