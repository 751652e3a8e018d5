-- How a version is chosen from those that a client offers.
-- From docs/PROTOCOL.md, Choosing a version.
use Rattle.std.specs.Prelude.{◌≡◌, ℕ, ◌<◌, ◌≤◌, ◌↔◌, Bool, List, ◌∷◌, ◌++◌, Option, is_some, IsNone, IfSome, All, Contains, filter, find, max, nat_eq, nat_le}
use Rattle.std.specs.List.{reduce}
use Rattle.slices.specs.First.{first_equal}

-- the highest of the offered versions that are at most the bound
abbrev pub highest_up_to : ℕ → List ℕ → Option ℕ
highest_up_to bound offered = reduce max (filter (λ v. nat_le v bound) offered)

-- in words: the answer is offered, not above the bound, and no offered version at most the bound is higher
pub record IsHighestUpTo (bound : ℕ) (offered : List ℕ) (answer : Option ℕ) : Type 0 where
  -- there is none exactly if every offered version is above the bound
  pub none : IsNone answer ↔ All (λ v. bound < v) offered
  pub among_offered : IfSome answer (Contains offered)
  pub not_above : IfSome answer (λ v. v ≤ bound)
  pub highest : IfSome answer (λ v. All (λ w. w ≤ bound → w ≤ v) offered)

-- whether a version is offered
abbrev pub is_offered : List ℕ → ℕ → Bool
is_offered offered v = is_some (first_equal nat_eq v offered)

-- the first of an own list that is offered
abbrev pub first_offered : List ℕ → List ℕ → Option ℕ
first_offered own offered = find (is_offered offered) own

-- in words: the answer is offered and stands in the own list, and no version before it there is offered
pub record IsFirstOffered (own offered : List ℕ) (answer : Option ℕ) : Type 0 where
  -- there is none exactly if none of the own list is offered
  pub none : IsNone answer ↔ All (λ v. ¬ Contains offered v) own
  pub among_offered : IfSome answer (Contains offered)
  pub first_own : IfSome answer (λ v. (before after : List ℕ) × (own ≡ before ++ v ∷ after) × All (λ w. ¬ Contains offered w) before)
