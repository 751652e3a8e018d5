use Rattle.std.proofs.Common.{◌≡◌, ◌+◌, ◌-◌, length, take, drop, Some, None, sym, ap, ◌∙◌, subst}
use Rattle.std.specs.Option.{option_map}
use Rattle.std.proofs.lemmas.List.{take_rest}
use Rattle.packetline.specs.Metadata.{IsPair, both}
use Rattle.packetline.proofs.Pairs.{pair_is, pair_at}
use Rattle.packetline.proofs.metadata.pair.Goals as goal

pub returns-in_err-at : goal.returns-in_err-at
returns-in_err-at c =
    let bs = c.args.line.now in
    let h = pair_at bs None c.in_err-at.ensures.meaning in
    let e = ap (option_map both) c.from_residual.ensures in
    record { value = e ∙ pair_is bs None h; law = subst (IsPair bs) (sym e) h }

pub returns : goal.returns
returns c =
    let bs = c.args.line.now in
    let at = c.in_ok-at.at in
    let p : Some (take at bs, drop (at + 1) bs) ≡ Some (take at bs, take (length bs - (at + 1)) (drop (at + 1) bs)) =
    let r = take_rest bs (at + 1) in cc in
    let h = subst (IsPair bs) p (pair_at bs (Some at) c.in_ok-at.ensures.meaning) in
    record { value = pair_is bs _ h; law = h }
