use Rattle.std.proofs.Common.{None, refl, rules, arith}
use Rattle.std.specs.List.{slice_get}
use Rattle.scripts.proofs.Scripted.{placed_is, from_each, got}
use Rattle.scripts.proofs.script.placed.Goals as goal

pub returns : goal.returns
returns c =
    let made = c.from_fn.ensures.items in
    placed_is c.args.rows.now 16 c.from_fn.result c.requires made.long
    (λ i h. from_each _ (slice_get c.args.rows.now) _ (λ k y q t. (search rules, search (rules, got))) _ c.from_fn.result 0 16 refl made.each i None (omega arith) (omega arith))
