-- What the search for the first element that passes answers.
use Rattle.std.proofs.Common.{◌≡◌, ℕ, ◌+◌, ◌<◌, ◌≤◌, Bool, true, cond, List, [], ◌∷◌, length, get_or, drop, Some, None, Option, sym, refl, ap, ◌∙◌, subst, ⊎_elim, arith}
use Rattle.std.specs.List.{position, position_or_len}
use Rattle.std.specs.Cmp.{IsEquivalence}
use Rattle.std.proofs.lemmas.List.{at_drop_more, at_drop_all}
use Rattle.std.proofs.lemmas.List.Sums.{passes_at_first, fails_before_first}
use Rattle.std.proofs.lemmas.Iterator.Adapters.{position_from-zero}
use Rattle.std.proofs.lemmas.Bool.{both_ways, cases_lt}
use Rattle.std.proofs.lemmas.Grind.{common_steps}
use Rattle.slices.specs.First.{first_from, first_equal, IsFirst, Reaches, Found}

module _ {X : Type 0} (p : X → Bool) where
  -- one turn at x, the element at i, where t is what its test said
  pub first_turn : (xs : List X) (i : ℕ) (x : X) (t : Bool) → i < length xs → x ≡ get_or xs i x → t ≡ p x
      → first_from p i (drop i xs) ≡ first_from p 0 xs → cond t (Some i) (first_from p (i + 1) (drop (i + 1) xs)) ≡ first_from p 0 xs
  first_turn xs i x t l e h inv =
      ap (λ b. cond b (Some i) (first_from p (i + 1) (drop (i + 1) xs))) (h ∙ ap p e) ∙ sym (at_drop_more (first_from p i) xs i x l) ∙ inv

  pub first_none : (xs : List X) (i : ℕ) → length xs ≤ i → first_from p i (drop i xs) ≡ first_from p 0 xs → None ≡ first_from p 0 xs
  first_none xs i l inv = sym (at_drop_all (first_from p i) xs i l) ∙ inv

  -- the computed answer, in words
  pub first_is : (xs : List X) (r : Option ℕ) → r ≡ first_from p 0 xs → IsFirst p xs r
  first_is xs None e =
      let place = position_from-zero p xs ∙ sym e in
      let none : length xs ≤ position_or_len p xs = grind (arith, common_steps, place) in
      λ k d l. fails_before_first p xs k d (omega arith)
  first_is xs (Some i) e =
      let place = position_from-zero p xs ∙ sym e in
      let at : position_or_len p xs ≡ i = grind (arith, common_steps, place) in
      let inside : i < length xs = grind (arith, common_steps, place) in (
        inside,
        λ d. subst (λ n. p (get_or xs n d) ≡ true) at (passes_at_first p xs d (omega arith)),
        λ k d l. fails_before_first p xs k d (omega arith),
      )

  -- where an element passes, the answer is there or before
  pub first_reaches : (xs : List X) (r : Option ℕ) → IsFirst p xs r → (k : ℕ) (d : X) → k < length xs → p (get_or xs k d) ≡ true → Reaches k r
  first_reaches xs None h k d l e = both_ways _ (h k d l) e
  first_reaches xs (Some i) h k d l e = ⊎_elim (λ b. absurd (both_ways _ (h.2 k d b) e)) (λ b. b) (cases_lt k i)

-- tests that agree find the same place
first_cong : {X : Type 0} (p q : X → Bool) → ((x : X) → p x ≡ q x) → (i : ℕ) (xs : List X) → first_from p i xs ≡ first_from q i xs
first_cong p q e i [] = refl
first_cong p q e i (x ∷ xs) =
    ap (λ b. cond b (Some i) (first_from p (i + 1) xs)) (e x) ∙ ap (cond (q x) (Some i)) (first_cong p q e (i + 1) xs)

-- all that is promised follows from the computed answer and the laws
pub found : {X : Type 0} (same : X → X → Bool) → IsEquivalence same → (xs : List X) (s : X) (r : Option ℕ) → r ≡ position (λ x. same x s) xs → Found same xs s r
found same laws xs s r h =
    let e : r ≡ first_equal same s xs = h ∙ position_from-zero (λ x. same x s) xs in
    let is : IsFirst (λ x. same x s) xs r = first_is (λ x. same x s) xs r e in
    record {
      value = e;
      meaning = is;
      stable = λ y h. e ∙ first_cong (λ x. same x s) (λ x. same x y) (λ x. laws.symm x s ∙ sym (laws.congr y s x h) ∙ laws.symm y x) 0 xs;
      itself = λ k d l at. first_reaches (λ x. same x s) xs r is k d l (subst (λ x. same x s ≡ true) (sym at) (laws.refl s));
    }
