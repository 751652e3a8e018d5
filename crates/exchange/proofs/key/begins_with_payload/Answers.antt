use Rattle.exchange.proofs.Reading.{begins_none, begins_data, begins_other}
use Rattle.exchange.proofs.key.begins_with_payload.Goals as goal

pub returns-in_default : goal.returns-in_default
returns-in_default c = begins_none c.args.bytes.now c.new-lines.result.unread.now c.next.new.self.unread.now c.new-lines.ensures c.in_default.ensures.steps

pub returns-in-Data : goal.returns-in-Data
returns-in-Data c =
    begins_data c.args.bytes.now c.new-lines.result.unread.now c.next.new.self.unread.now c.in-Some.packet c.new-lines.ensures c.in-Some.ensures.steps c.in-Data.field-0 c.in-Data.is

pub returns-in-Flush : goal.returns-in-Flush
returns-in-Flush c = begins_other c.args.bytes.now c.new-lines.result.unread.now c.next.new.self.unread.now c.in-Some.packet c.new-lines.ensures c.in-Some.ensures.steps c.in-Flush.is
