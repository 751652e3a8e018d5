use Rattle.std.proofs.Common.{arith}
use Rattle.exchange.proofs.Keying.{key_more, key_tells}
use Rattle.exchange.proofs.key.which_run.Goals as goal

pub loop-watched-preserved : goal.loop-watched-preserved
loop-watched-preserved c = λ rows room.
    key_more rows room c.args.calls.now c.loop-watched.watched-index c.watched-item.result _ _ (omega arith) c.watched-item.is (c.loop-watched.invariant rows room) (c.in_ok-after.ensures.ok rows room)

pub returns-clause-law : goal.returns-clause-law
returns-clause-law c = key_tells c.args.calls.now c.loop-watched.watched-index _ (omega arith) c.loop-watched.invariant
