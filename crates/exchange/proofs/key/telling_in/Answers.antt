use Rattle.std.proofs.Common.{rules}
use Rattle.packetline.specs.Text.{text_number}
use Rattle.exchange.proofs.Reading.{leads_first, leads_line, told_at_flush, marked_at_marker, cut_at_line, cut_at_end}
use Rattle.exchange.proofs.key.telling_in.Goals as goal

pub loop-packet-init : goal.loop-packet-init
loop-packet-init c = (tt, tt, leads_first c.args.bytes.now c.new-lines.result.unread.now c.new-lines.ensures)

pub loop-packet-preserved : goal.loop-packet-preserved
loop-packet-preserved c = (
  tt,
  tt,
  leads_line c.args.bytes.now c.loop-packet.told c.loop-packet.lines.unread.now c.loop-packet.invariant.2 c.next.new.self.unread.now c.in-Some.packet c.in-Some.ensures.steps c.in-Data.payload c.in-Data.is
      c.in-Ok.text.now c.told_by-told.result (search rules) (search rules),
)

pub returns-in-Flush : goal.returns-in-Flush
returns-in-Flush c =
    told_at_flush c.args.bytes.now c.loop-packet.told c.loop-packet.lines.unread.now c.loop-packet.invariant.2 c.next.new.self.unread.now c.in-Some.packet c.in-Some.ensures.steps c.in-Flush.is

pub returns-in-Delimiter : goal.returns-in-Delimiter
returns-in-Delimiter c =
    marked_at_marker c.args.bytes.now c.loop-packet.told c.loop-packet.lines.unread.now c.loop-packet.invariant.2 c.next.new.self.unread.now c.in-Some.packet c.in-Some.ensures.steps c.in-Delimiter.is

pub returns-in_default-text : goal.returns-in_default-text
returns-in_default-text c =
    cut_at_line c.args.bytes.now c.loop-packet.told c.loop-packet.lines.unread.now c.loop-packet.invariant.2 c.next.new.self.unread.now c.in-Some.packet c.in-Some.ensures.steps c.in-Data.payload c.in-Data.is (text_number c.in_default-text.field-0) (search rules)

pub returns : goal.returns
returns c = cut_at_end c.args.bytes.now c.loop-packet.told c.loop-packet.lines.unread.now c.loop-packet.invariant.2 c.next.new.self.unread.now c.in_default.ensures.steps
