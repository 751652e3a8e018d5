-- Places of names, in the order first named.
use Rattle.std.specs.Prelude.{◌≡◌, ℕ, ◌<◌, Bool, true, cond, List, [], ◌∷◌, ◌++◌, Some, None, Option, nat_eq}
use Rattle.std.specs.List.{list_any}

-- whether a place is among these
abbrev pub is_among : ℕ → List ℕ → Bool
is_among k ks = list_any (nat_eq k) ks

-- one place more, unless it is among them
abbrev pub with_place : List ℕ → Option ℕ → List ℕ
with_place ks None = ks
with_place ks (Some k) = cond (is_among k ks) ks (ks ++ k ∷ [])

-- each is the place of one of n names
abbrev pub AllWithin : ℕ → List ℕ → Type 0
AllWithin n ks = (k : ℕ) → is_among k ks ≡ true → k < n
