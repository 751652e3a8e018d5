use Rattle.exchange.proofs.Reading.{flush_met, flush_to_come, no_flush_met}
use Rattle.exchange.proofs.key.behind_flush.Goals as goal

pub returns-in-Flush : goal.returns-in-Flush
returns-in-Flush c =
    flush_met c.args.bytes.now c.loop-packet.lines.unread.now c.loop-packet.invariant.2 c.next.new.self.unread.now c.in-Some.packet c.in-Some.ensures.steps c.in-Flush.is c.rest.result.now c.rest.ensures

pub loop-packet-preserved : goal.loop-packet-preserved
loop-packet-preserved c = (
  tt,
  tt,
  flush_to_come c.args.bytes.now c.loop-packet.lines.unread.now c.loop-packet.invariant.2 c.next.new.self.unread.now c.in-Some.packet c.in-Some.ensures.steps c.in_default-packet.not-Flush,
)

pub returns : goal.returns
returns c =
    no_flush_met c.args.bytes.now c.loop-packet.lines.unread.now c.loop-packet.invariant.2 c.next.new.self.unread.now c.in_default.ensures.steps c.rest-2.result.now c.rest-2.ensures
