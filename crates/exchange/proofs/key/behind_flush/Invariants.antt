use Rattle.std.proofs.Common.{◌≡◌}
use Rattle.rules.specs.Stories.{behind_flushes}
use Rattle.exchange.specs.Watching.{packets_in}
use Rattle.exchange.proofs.key.behind_flush.Given as goal

abbrev pub invariant-loop-packet : goal.invariant-loop-packet
invariant-loop-packet l =
    (goal.iterator-loop-packet).can_next l.lines × (goal.iterator-loop-packet).is_finite l.lines × (behind_flushes 1 (packets_in l.fn.bytes) ≡ behind_flushes 1 (packets_in l.lines.unread.now))
