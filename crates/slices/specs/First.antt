-- The first element of a list that passes a test, and the first that equals another.
use Rattle.std.specs.Prelude.{◌≡◌, ℕ, ◌<◌, ◌≤◌, Bool, true, false, List, length, Some, None, Option, slice_index_or}
use Rattle.std.specs.List.{position_from}

-- the index of the first that passes, where the first of the list has index i
abbrev pub first_from : {X : Type 0} → (X → Bool) → ℕ → List X → Option ℕ
first_from p i xs = position_from p i xs

-- the index of the first that is the same as the sought one
abbrev pub first_equal : {X : Type 0} → (X → X → Bool) → X → List X → Option ℕ
first_equal same sought xs = first_from (λ x. same x sought) 0 xs

-- in words: an answer is in reach, passes, and none before it passes; no answer says that none passes
abbrev pub IsFirst : {X : Type 0} → (X → Bool) → List X → Option ℕ → Type 0
IsFirst {X} p xs None = (k : ℕ) (d : X) → k < length xs → p (slice_index_or xs k d) ≡ false
IsFirst {X} p xs (Some i) = (i < length xs) × ((d : X) → p (slice_index_or xs i d) ≡ true) × ((k : ℕ) (d : X) → k < i → p (slice_index_or xs k d) ≡ false)

-- there is an answer, and it is k or before k
abbrev pub Reaches : ℕ → Option ℕ → Type 0
Reaches k None = ⊥
Reaches k (Some i) = i ≤ k

-- what a search for the first equal element promises of its answer
pub record Found {X : Type 0} (same : X → X → Bool) (xs : List X) (sought : X) (answer : Option ℕ) : Type 0 where
  -- the answer, computed
  pub value : answer ≡ first_equal same sought xs
  -- the answer in words
  pub meaning : IsFirst (λ x. same x sought) xs answer
  -- an element that is the same as the sought one is found at the same place
  pub stable : (y : X) → same y sought ≡ true → answer ≡ first_equal same y xs
  -- an element of the list is found, there or before
  pub itself : (k : ℕ) (d : X) → k < length xs → slice_index_or xs k d ≡ sought → Reaches k answer
