-- One place more, behind the others.
use Rattle.std.proofs.Common.{◌≡◌, ℕ, zero, suc, ◌+◌, ◌<◌, ◌≤◌, Bool, true, false, eqb, ◌||◌, List, [], ◌∷◌, ◌++◌, length, get_or, take, set, cond, Some, sym, refl, ap, ◌∙◌, subst, ⊎_elim, arith}
use Rattle.std.specs.List.{IsDistinct, list_any}
use Rattle.std.specs.Cmp.{nat_eq_equiv}
use Rattle.std.proofs.lemmas.List.{take_more_set, length-take, length-append}
use Rattle.std.proofs.lemmas.List.Folds.{list_any-append}
use Rattle.std.proofs.lemmas.Map.Keys.{IsDistinct-push}
use Rattle.std.proofs.lemmas.Map.Steps.{length-le_from_distinct_below}
use Rattle.std.proofs.lemmas.Bool.{eqb-true, eq-eqb, or_cases, or_right}
use Rattle.std.specs.Str.{bytes_eq}
use Rattle.slices.specs.declared.name.Name.{Name}
use Rattle.slices.specs.Names.{name_bytes}
use Rattle.slices.proofs.Searches.{first_is}
use Rattle.process.specs.Masks.{place_of}
use Rattle.handshake.specs.Places.{is_among, with_place, AllWithin}

-- the places with one more
pub among_push : (k : ℕ) (ks : List ℕ) (j : ℕ) → is_among j (ks ++ k ∷ []) ≡ (is_among j ks || (eqb j k || false))
among_push k ks j = list_any-append (eqb j) ks (k ∷ [])

pub within_none : (n : ℕ) → AllWithin n []
within_none n k e = let z : ◌≡◌ {A = ℕ} 0 1 = cc in absurd (omega arith)

pub within_push : (n k : ℕ) (ks : List ℕ) → k < n → AllWithin n ks → AllWithin n (ks ++ k ∷ [])
within_push n k ks h all j e =
    ⊎_elim (λ a. all j a) (λ a. ⊎_elim (λ b. let z = eqb-true j k b in omega arith) (λ b. let z : ◌≡◌ {A = ℕ} 0 1 = cc in absurd (omega arith)) (or_cases (eqb j k) false a))
    (or_cases (is_among j ks) (eqb j k || false) (sym (among_push k ks j) ∙ e))

within_by : (n k : ℕ) (ks : List ℕ) (b : Bool) → k < n → AllWithin n ks → AllWithin n (cond b ks (ks ++ k ∷ []))
within_by n k ks true h all = all
within_by n k ks false h all = within_push n k ks h all

pub within_place : (n k : ℕ) (ks : List ℕ) → k < n → AllWithin n ks → AllWithin n (with_place ks (Some k))
within_place n k ks h all = within_by n k ks (is_among k ks) h all

-- a name is found among the names
pub place_within : (names : List Name) (s : List ℕ) (k : ℕ) → place_of names s ≡ Some k → k < length names
place_within names s k e = (first_is (λ n. bytes_eq (name_bytes n) s) names (Some k) (sym e)).0

module _ (places : List ℕ) (count k : ℕ) (room : length places ≡ 32) (few : count ≤ 32) (once : IsDistinct eqb (take count places)) (small : AllWithin 32 (take count places))
    (new : is_among k (take count places) ≡ false) (low : k < 32) where
  once_more : IsDistinct eqb (take count places ++ k ∷ [])
  once_more = IsDistinct-push nat_eq_equiv (take count places) k once new

  -- there is a place left, since none is held twice
  pub place_left : count < 32
  place_left =
      let most = length-le_from_distinct_below (take count places ++ k ∷ []) 32 once_more (within_push 32 k (take count places) low small) in
      let long = length-append (take count places) (k ∷ []) in
      let front = length-take count places in
      omega (arith, most, long, front, room, few)

  pub pushed : take (count + 1) (set places count k) ≡ take count places ++ k ∷ []
  pushed = take_more_set places count k (let l = place_left in omega (arith, room))

  pub once_pushed : IsDistinct eqb (take (count + 1) (set places count k))
  once_pushed = subst (IsDistinct eqb) (sym pushed) once_more

  pub small_pushed : AllWithin 32 (take (count + 1) (set places count k))
  small_pushed j e = within_push 32 k (take count places) low small j (ap (is_among j) (sym pushed) ∙ e)

-- an element is among the elements
pub among_at : (ks : List ℕ) (i d : ℕ) → i < length ks → is_among (get_or ks i d) ks ≡ true
among_at [] i d h = absurd (omega arith)
among_at (k ∷ ks) zero d h = ap (λ b. b || list_any (eqb k) ks) (eq-eqb k k refl)
among_at (k ∷ ks) (suc i) d h = or_right (eqb (get_or ks i d) k) (is_among (get_or ks i d) ks) (among_at ks i d (omega arith))
