-- The digits of a number, written from the last to the first.
use Rattle.std.proofs.Common.{◌≡◌, ℕ, ◌+◌, ◌-◌, ◌/◌, ◌%◌, ◌^◌, ◌<◌, ◌≤◌, List, [], ◌∷◌, ◌++◌, length, take, drop, set, decimal, refl, sym, ap, subst, ◌∙◌, append_assoc, arith, length-set}
use Rattle.std.proofs.lemmas.Fmt.{decimal_digit, decimal_step, decimal_nonempty, length-decimal-le}
use Rattle.std.proofs.lemmas.List.{append-nil, drop_all, drop-set, length_push, take-set, take-take}

-- the digits of left belong before what is written behind place at, there is room for them, and up to there the area is as it was
pub record Spelled (n left at : ℕ) (was ds : List ℕ) : Type 0 where
  pub long : length ds ≡ 20
  pub small : at < 20
  pub fits : left < 2 ^ 64
  pub room : length (decimal left) ≤ at + 1
  pub rest : decimal left ++ drop (at + 1) ds ≡ decimal n
  pub kept : take (at + 1) ds ≡ take (at + 1) was

-- what is before a write stays
before_write : (at d : ℕ) (was ds : List ℕ) → take (at + 1) ds ≡ take (at + 1) was → take at (set ds at d) ≡ take at was
before_write at d was ds h =
    take-set ds at d ∙ sym (take-take at (at + 1) ds (omega arith)) ∙ ap (take at) h ∙ take-take at (at + 1) was (omega arith)

pub spelled_none : (n : ℕ) (ds : List ℕ) → n < 2 ^ 64 → length ds ≡ 20 → Spelled n n 19 ds ds
spelled_none n ds h l =
    record {
      long = l;
      small = omega arith;
      fits = h;
      room = length-decimal-le 20 n (omega arith) (omega arith) h;
      rest = ap (λ xs. decimal n ++ xs) (drop_all 20 ds (omega arith)) ∙ append-nil (decimal n);
      kept = refl;
    }

module _ (n left at : ℕ) (was ds : List ℕ) (s : Spelled n left at was ds) where
  module _ (h : 10 ≤ left) where
    less : left / 10 < 2 ^ 64
    less = omega arith

    shorter : length (decimal left) ≡ length (decimal (left / 10)) + 1
    shorter = ap length (decimal_step left h s.fits) ∙ length_push (decimal (left / 10)) (48 + left % 10)

    -- there is a place before this one
    pub spelled_on : 1 ≤ at
    spelled_on = omega (arith, s.room, shorter, decimal_nonempty (left / 10) less)

    pub spelled_more : (d : ℕ) → d ≡ 48 + left % 10 → Spelled n (left / 10) (at - 1) was (set ds at d)
    spelled_more d e =
        let back : at - 1 + 1 ≡ at = omega (arith, spelled_on) in
        let next : drop (at - 1 + 1) (set ds at d) ≡ (48 + left % 10) ∷ drop (at + 1) ds =
        ap (λ i. drop i (set ds at d)) back ∙ drop-set ds at d (omega arith) ∙ ap (λ x. x ∷ drop (at + 1) ds) e in
        record {
          long = length-set ds at d ∙ s.long;
          small = omega arith;
          fits = less;
          room = omega (arith, s.room, shorter, back);
          rest = ap (λ xs. decimal (left / 10) ++ xs) next ∙ sym (append_assoc (decimal (left / 10)) ((48 + left % 10) ∷ []) (drop (at + 1) ds))
              ∙ ap (λ xs. xs ++ drop (at + 1) ds) (sym (decimal_step left h s.fits)) ∙ s.rest;
          kept = let P : ℕ → Type 0 = λ i. take i (set ds at d) ≡ take i was in subst P (sym back) (before_write at d was ds s.kept);
        }

  pub spelled_all : (d : ℕ) → left < 10 → d ≡ 48 + left → drop at (set ds at d) ≡ decimal n
  spelled_all d h e =
      drop-set ds at d (omega arith) ∙ ap (λ x. x ∷ drop (at + 1) ds) e ∙ ap (λ xs. xs ++ drop (at + 1) ds) (sym (decimal_digit left h)) ∙ s.rest

  pub spelled_after : (d : ℕ) → take at (set ds at d) ≡ take at was
  spelled_after d = before_write at d was ds s.kept
