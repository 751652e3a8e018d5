-- The processes that run, as code keeps them.
use Rattle.std.proofs.Common.{◌≡◌, Bool, true, false, cond, ◌||◌, List, [], ◌∷◌, map, refl, ap, ◌∙◌}
use Rattle.std.specs.List.{list_any, filter}
use Rattle.rules.specs.Key.{Runner}
use Rattle.exchange.specs.declared.key.Runner.{Runner as InCode}
use Rattle.exchange.specs.Watching.{runner_of}

any_mapped : (test : Runner → Bool) (rs : List InCode) → list_any (λ r. test (runner_of r)) rs ≡ list_any test (map runner_of rs)
any_mapped test [] = refl
any_mapped test (r ∷ rs) = ap (λ b. test (runner_of r) || b) (any_mapped test rs)

-- whether one passes
pub any_is : (test : Runner → Bool) (rs : List InCode) (b : Bool) → b ≡ list_any (λ r. test (runner_of r)) rs → b ≡ list_any test (map runner_of rs)
any_is test rs b e = e ∙ any_mapped test rs

filter_mapped : (test : Runner → Bool) (rs : List InCode) → map runner_of (filter (λ r. test (runner_of r)) rs) ≡ filter test (map runner_of rs)
filter_mapped test [] = refl
filter_mapped test (r ∷ rs) = kept (test (runner_of r)) (filter_mapped test rs)
  where
    kept : (b : Bool) → map runner_of (filter (λ r. test (runner_of r)) rs) ≡ filter test (map runner_of rs)
        → map runner_of (cond b (r ∷ filter (λ r. test (runner_of r)) rs) (filter (λ r. test (runner_of r)) rs)) ≡ cond b (runner_of r ∷ filter test (map runner_of rs)) (filter test (map runner_of rs))
    kept true e = ap (λ xs. runner_of r ∷ xs) e
    kept false e = e

-- those that pass
pub filter_is : (test : Runner → Bool) (rs ss : List InCode) → ss ≡ filter (λ r. test (runner_of r)) rs → map runner_of ss ≡ filter test (map runner_of rs)
filter_is test rs ss e = ap (map runner_of) e ∙ filter_mapped test rs
