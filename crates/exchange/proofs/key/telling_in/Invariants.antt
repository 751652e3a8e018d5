use Rattle.exchange.proofs.Reading.{Leads}
use Rattle.exchange.proofs.key.telling_in.Given as goal

abbrev pub invariant-loop-packet : goal.invariant-loop-packet
invariant-loop-packet l =
    (goal.iterator-loop-packet).can_next l.lines × (goal.iterator-loop-packet).is_finite l.lines × Leads l.fn.bytes l.told l.lines.unread.now
