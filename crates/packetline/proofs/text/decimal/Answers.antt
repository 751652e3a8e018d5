use Rattle.std.proofs.Common.{◌∙◌, arith, length-set}
use Rattle.packetline.proofs.Decimals.{spelled_none, spelled_on, spelled_more, spelled_all, spelled_after}
use Rattle.packetline.proofs.Numbers.{decimal_number}
use Rattle.packetline.proofs.text.decimal.Goals as goal

pub loop-left-init : goal.loop-left-init
loop-left-init c = spelled_none c.args.n c.args.digits.now (omega arith) (omega arith)

pub overflow_sub-at : goal.overflow_sub-at
overflow_sub-at c = spelled_on _ _ _ _ _ c.loop-left.invariant (omega arith)

pub loop-left-preserved : goal.loop-left-preserved
loop-left-preserved c = spelled_more _ _ _ _ _ c.loop-left.invariant (omega arith) _ (omega arith)

pub returns : goal.returns
returns c =
    let s = c.loop-left.invariant in
    record {
      value = spelled_all _ _ _ _ _ s _ (omega arith) (omega arith);
      bound = s.small;
      len = length-set c.loop-left.digits c.loop-left.at _ ∙ s.long;
      stays = spelled_after _ _ _ _ _ s _;
      law = decimal_number c.args.n (omega arith);
    }
