use Rattle.std.proofs.Common.{ap, ◌∙◌, arith}
use Rattle.rules.specs.Stories.{behind_flushes}
use Rattle.rules.specs.Key.{after_call}
use Rattle.exchange.specs.Values.{call_of}
use Rattle.exchange.specs.Watching.{packets_in}
use Rattle.exchange.proofs.Keying.{by_meeting}
use Rattle.exchange.proofs.key.after_meeting.Goals as goal

pub returns : goal.returns
returns c = λ rows room.
    by_meeting (call_of rows room c.args.call) (packets_in c.args.given.now) c.args.ended _ (omega (arith, c.count.ensures.counted.flushes_are))
    (c.after_call.ensures rows room ∙ ap (λ ps. after_call (call_of rows room c.args.call) ps c.args.ended) (c.behind_flush-2.ensures ∙ ap (behind_flushes 1) c.behind_flush.ensures))
