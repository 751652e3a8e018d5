-- A line of metadata that begins with `pathname=`: its key is `pathname`, and its value what follows, without the white space at its end.
use Rattle.std.proofs.Common.{◌≡◌, ℕ, zero, suc, ◌+◌, ◌-◌, ◌<◌, ◌≤◌, Bool, true, false, cond, ◌⊎◌, List, [], ◌∷◌, ◌++◌, length, take, drop, Some, codes, sym, refl, ap, ◌∙◌, subst, ⊎_elim, arith}
use Rattle.std.specs.Str.{chars}
use Rattle.std.proofs.lemmas.List.{length-append}
use Rattle.std.proofs.lemmas.Bool.{and_right, cases_lt, cond-false}
use Rattle.packetline.specs.declared.metadata.Side.{Side}
use Rattle.packetline.specs.declared.metadata.Side.TheVariants.{Front, Back}
use Rattle.packetline.specs.Metadata.{blank, most, part, rest, trim_at, trim_both, pair_of}
use Rattle.packetline.specs.Text.{utf8}

most_least : (p : ℕ → Bool) (n k : ℕ) → n ≤ k → most p n ≤ k
most_least p zero k h = omega arith
most_least p (suc n) k h = elim (p (suc n)) as (λ b. cond b (suc n) (most p n) ≤ k) [ true ↦ h | false ↦ most_least p n k (omega arith) ]

-- where nothing above k passes
most_up_to : (p : ℕ → Bool) (k n : ℕ) → ((i : ℕ) → k < i → i ≤ n → p i ≡ false) → most p n ≤ k
most_up_to p k zero none = omega arith
most_up_to p k (suc n) none =
    ⊎_elim
    (λ (h : k < suc n). subst (λ m. m ≤ k) (sym (cond-false (p (suc n)) (suc n) (most p n) (none (suc n) h (omega arith)))) (most_up_to p k n (λ i a b. none i a (omega arith))))
    (λ (h : suc n ≤ k). most_least p (suc n) k h)
    (cases_lt k (suc n))

-- `pathname=` and more
abbrev named : List ℕ → List ℕ
named xs = codes "pathname=" ++ xs

-- from none of these bytes on it is all white
dark_front : (xs : List ℕ) → blank (112 ∷ xs) ≡ false
unfolding blank chars
dark_front [] = and_right _ _ refl
dark_front (x ∷ xs) = and_right _ _ refl

dark : (xs : List ℕ) (i : ℕ) → i < 9 → blank (drop i (named xs)) ≡ false
unfolding blank chars
dark xs zero h = and_right _ _ refl
dark xs (suc zero) h = and_right _ _ refl
dark xs (suc (suc zero)) h = and_right _ _ refl
dark xs (suc (suc (suc zero))) h = and_right _ _ refl
dark xs (suc (suc (suc (suc zero)))) h = and_right _ _ refl
dark xs (suc (suc (suc (suc (suc zero))))) h = and_right _ _ refl
dark xs (suc (suc (suc (suc (suc (suc zero)))))) h = and_right _ _ refl
dark xs (suc (suc (suc (suc (suc (suc (suc zero))))))) h = and_right _ _ refl
dark [] (suc (suc (suc (suc (suc (suc (suc (suc zero)))))))) h = and_right _ _ refl
dark (x ∷ xs) (suc (suc (suc (suc (suc (suc (suc (suc zero)))))))) h = and_right _ _ refl
dark xs (suc (suc (suc (suc (suc (suc (suc (suc (suc i))))))))) h = absurd (omega arith)

take_on : (p q : List ℕ) (j : ℕ) → take (length p + j) (p ++ q) ≡ p ++ take j q
take_on [] q j = let e : 0 + j ≡ j = omega arith in ap (λ n. take n q) e
take_on (b ∷ p) q j = let e : length (b ∷ p) + j ≡ suc (length p + j) = omega arith in ap (λ n. take n (b ∷ (p ++ q))) e ∙ ap (λ l. b ∷ l) (take_on p q j)

module _ (xs : List ℕ) where
  long : length (named xs) ≡ 9 + length xs
  long = length-append (codes "pathname=") xs

  front_dark : (n : ℕ) → 0 < n → blank (take n (named xs)) ≡ false
  front_dark zero h = absurd (omega arith)
  front_dark (suc n) h = dark_front (take n (codes "athname=" ++ xs))

  front_stays : trim_at Front (named xs) ≡ named xs
  unfolding trim_at
  front_stays =
      let m : most (λ n. blank (take n (named xs))) (length (named xs)) ≤ 0 = most_up_to _ 0 (length (named xs)) (λ i h k. front_dark i h) in
      let z : most (λ n. blank (take n (named xs))) (length (named xs)) ≡ 0 = omega arith in
      ap (λ n. drop n (named xs)) z

  abbrev cut : ℕ
  cut = most (λ n. blank (drop (length (named xs) - n) (named xs))) (length (named xs))

  cut_small : cut ≤ length xs
  cut_small = let l = long in most_up_to _ (length xs) (length (named xs)) (λ i h k. dark xs (length (named xs) - i) (omega arith))

  back_kept : trim_at Back (named xs) ≡ named (take (length xs - cut) xs)
  unfolding trim_at
  back_kept =
      let l = long in
      let c = cut_small in
      let e : length (named xs) - cut ≡ length (codes "pathname=") + (length xs - cut) = omega arith in
      ap (λ n. take n (named xs)) e ∙ take_on (codes "pathname=") xs (length xs - cut)

  pub pathname_pair : (k : ℕ) × (pair_of (trim_both (codes "pathname=" ++ xs)) ≡ Some (codes "pathname", take k xs))
  pathname_pair = (length xs - cut, ap (λ l. pair_of (trim_at Back l)) front_stays ∙ ap pair_of back_kept)
