-- A text by its seven bytes.
use Rattle.std.proofs.Common.{◌≡◌, ℕ, zero, suc, ◌<◌, List, [], ◌∷◌, length, get_or, arith}
use Rattle.std.proofs.lemmas.Grind.{same_number_lists}

module _ (xs : List ℕ) (a b c d e f g : ℕ) (long : length xs ≡ 7) (p₀ : get_or xs 0 0 ≡ a) (p₁ : get_or xs 1 0 ≡ b) (p₂ : get_or xs 2 0 ≡ c) (p₃ : get_or xs 3 0 ≡ d)
    (p₄ : get_or xs 4 0 ≡ e) (p₅ : get_or xs 5 0 ≡ f) (p₆ : get_or xs 6 0 ≡ g) where
  byte_is : (i : ℕ) → i < 7 → get_or xs i 0 ≡ get_or (a ∷ b ∷ c ∷ d ∷ e ∷ f ∷ g ∷ []) i 0
  byte_is zero h = p₀
  byte_is (suc zero) h = p₁
  byte_is (suc (suc zero)) h = p₂
  byte_is (suc (suc (suc zero))) h = p₃
  byte_is (suc (suc (suc (suc zero)))) h = p₄
  byte_is (suc (suc (suc (suc (suc zero))))) h = p₅
  byte_is (suc (suc (suc (suc (suc (suc zero)))))) h = p₆
  byte_is (suc (suc (suc (suc (suc (suc (suc i))))))) h = absurd (omega arith)

  pub spelt : xs ≡ a ∷ b ∷ c ∷ d ∷ e ∷ f ∷ g ∷ []
  spelt = same_number_lists xs (a ∷ b ∷ c ∷ d ∷ e ∷ f ∷ g ∷ []) long (λ i h. byte_is i (omega (arith, long)))
