-- The highest version up to a bound, in words.
use Rattle.std.proofs.Common.{◌≡◌, ℕ, ◌<◌, ◌≤◌, max, Bool, true, false, leb, cond, List, [], ◌∷◌, Option, sym, subst, refl, ⊎_elim, arith}
use Rattle.std.specs.List.{All, Contains, filter, fold, reduce}
use Rattle.std.proofs.lemmas.Bool.{both_ways, cases_lt, leb-true, le-leb}
use Rattle.std.proofs.lemmas.List.Elements.{All-nil, All-cons, All-head, All-tail, All-weaker, All-contains, All-contains_itself, All-filter, filter_passes}
use Rattle.choices.specs.Choices.{highest_up_to, IsHighestUpTo}

-- what holds of each number holds of the highest
fold_max_has : (P : ℕ → Type 0) (a : ℕ) (xs : List ℕ) → P a → All P xs → P (fold max a xs)
fold_max_has P a [] h hs = h
fold_max_has P a (x ∷ xs) h hs =
    let at : P (max a x) = ⊎_elim (λ (l : a < x). subst P (omega arith) (All-head P x xs hs)) (λ (l : x ≤ a). subst P (omega arith) h) (cases_lt a x) in
    fold_max_has P (max a x) xs at (All-tail P x xs hs)

-- no number is higher
fold_max_top : (a : ℕ) (xs : List ℕ) → (a ≤ fold max a xs) × All (λ x. x ≤ fold max a xs) xs
fold_max_top a [] = (omega arith, All-nil _)
fold_max_top a (x ∷ xs) = let h = fold_max_top (max a x) xs in (omega (arith, h.0), All-cons (λ v. v ≤ fold max (max a x) xs) x xs (omega (arith, h.0)) h.1)

-- what holds of each element that is kept holds of each that passes
passing : (p : ℕ → Bool) (P : ℕ → Type 0) (xs : List ℕ) → All P (filter p xs) → All (λ x. p x ≡ true → P x) xs
passing p P [] h = All-nil _
passing p P (x ∷ xs) h =
    let passes : ℕ → Type 0 = λ x. p x ≡ true → P x in
    elim (p x) as (λ b. p x ≡ b → All P (cond b (x ∷ filter p xs) (filter p xs)) → All (λ x. p x ≡ true → P x) (x ∷ xs)) [
      | true ↦ λ e h. All-cons passes x xs (λ _. All-head P x _ h) (passing p P xs (All-tail P x _ h))
      | false ↦ λ e h. All-cons passes x xs (λ t. absurd (both_ways _ e t)) (passing p P xs h)
    ] refl h

module _ (bound : ℕ) (offered : List ℕ) where
  -- the highest of ys, where ys are the offered versions that are at most the bound
  highest_of : (ys : List ℕ) → All (Contains offered) ys → All (λ v. v ≤ bound) ys → ((P : ℕ → Type 0) → All P ys → All (λ v. v ≤ bound → P v) offered)
      → IsHighestUpTo bound offered (reduce max ys)
  highest_of [] own low each = record {
    none = (λ _. All-weaker (λ v. v ≤ bound → ⊥) (λ v. bound < v) (λ v h. ⊎_elim (λ b. b) (λ l. absurd (h l)) (cases_lt bound v)) offered (each (λ _. ⊥) (All-nil _)), λ _. refl);
    among_offered = tt;
    not_above = tt;
    highest = tt;
  }
  highest_of (y ∷ ys) own low each =
      let is : Contains offered (fold max y ys) = fold_max_has (Contains offered) y ys (All-head (Contains offered) y ys own) (All-tail (Contains offered) y ys own) in
      let at : fold max y ys ≤ bound = fold_max_has (λ v. v ≤ bound) y ys (All-head (λ v. v ≤ bound) y ys low) (All-tail (λ v. v ≤ bound) y ys low) in
      let top = fold_max_top y ys in
      record {
        none = (λ f. cc, λ h. let above : bound < fold max y ys = All-contains (λ v. bound < v) offered _ h is in absurd (omega arith));
        among_offered = is;
        not_above = at;
        highest = each (λ w. w ≤ fold max y ys) (All-cons (λ w. w ≤ fold max y ys) y ys top.0 top.1);
      }

  pub highest_is : (r : Option ℕ) → r ≡ highest_up_to bound offered → IsHighestUpTo bound offered r
  highest_is r e =
      subst (IsHighestUpTo bound offered) (sym e)
      (highest_of (filter (λ v. leb v bound) offered)
      (All-filter _ (Contains offered) offered (All-contains_itself offered))
      (All-weaker (λ v. leb v bound ≡ true) (λ v. v ≤ bound) (λ v. leb-true v bound) _ (filter_passes (λ v. leb v bound) offered))
      (λ P h. All-weaker (λ v. leb v bound ≡ true → P v) (λ v. v ≤ bound → P v) (λ v pass l. pass (le-leb v bound l)) offered (passing (λ v. leb v bound) P offered h)))
