use Rattle.std.proofs.Common.{rules}
use Rattle.std.proofs.lemmas.Iterator.{YieldsList-from_slice}
use Rattle.std.proofs.lemmas.Iterator.Search.{position_from_yields_List}
use Rattle.slices.proofs.Searches.{found}
use Rattle.slices.proofs.equal.first.Goals as goal

pub returns : goal.returns
returns g c =
    found g.T.PartialEq.eq g.met.T.Eq.laws c.args.items.now c.args.sought.now c.position.result
    (position_from_yields_List _ _ _ _ c.position.ensures.ran (YieldsList-from_slice _ c.iter.ensures.rest) (λ x b q k. search rules))
