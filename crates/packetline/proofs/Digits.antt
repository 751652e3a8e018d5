-- Hexadecimal digits: what is written reads back, in either case.
use Rattle.std.proofs.Common.{◌≡◌, ℕ, ◌+◌, ◌*◌, ◌/◌, ◌%◌, ◌<◌, ◌≤◌, List, [], ◌∷◌, map, length, get_or, take, Some, None, Option, sym, refl, ap, ◌∙◌, arith}
use Rattle.std.proofs.lemmas.Bool.Decides.{nat_tests}
use Rattle.packetline.specs.Packets.{digit, of_digits, number, hex_char, digits, lower}

pub digit_lower : (b : ℕ) → digit (lower b) ≡ digit b
digit_lower b = grind (arith, nat_tests)

pub digit_char : (d : ℕ) → d < 16 → digit (hex_char d) ≡ Some d
digit_char d h = grind (arith, nat_tests)

pub digit_small : (b d : ℕ) → digit b ≡ Some d → d < 16
digit_small b d e = grind (arith, nat_tests)

pub digit_is : (b d : ℕ) → digit b ≡ Some d → lower b ≡ hex_char d
digit_is b d e = grind (arith, nat_tests)

pub lower_char : (d : ℕ) → d < 16 → lower (hex_char d) ≡ hex_char d
lower_char d h = grind (arith, nat_tests)

-- four digits that spell a number
pub record Spelling (x y z w : Option ℕ) (n : ℕ) : Type 0 where
  pub a : ℕ
  pub b : ℕ
  pub c : ℕ
  pub d : ℕ
  pub first : x ≡ Some a
  pub second : y ≡ Some b
  pub third : z ≡ Some c
  pub fourth : w ≡ Some d
  pub sum : n ≡ a * 4096 + b * 256 + c * 16 + d

none_some : (n : ℕ) → ◌≡◌ {A = Option ℕ} None (Some n) → ⊥
none_some n e = let z : ◌≡◌ {A = ℕ} 0 1 = cc in omega arith

pub spelling : (x y z w : Option ℕ) (n : ℕ) → of_digits x y z w ≡ Some n → Spelling x y z w n
spelling (Some a) (Some b) (Some c) (Some d) n e =
    record { a = a; b = b; c = c; d = d; first = refl; second = refl; third = refl; fourth = refl; sum = cc }
spelling (Some a) (Some b) (Some c) None n e = absurd (none_some n e)
spelling (Some a) (Some b) None w n e = absurd (none_some n e)
spelling (Some a) None z w n e = absurd (none_some n e)
spelling None y z w n e = absurd (none_some n e)

abbrev pub four : List ℕ → List ℕ
four xs = get_or xs 0 0 ∷ get_or xs 1 0 ∷ get_or xs 2 0 ∷ get_or xs 3 0 ∷ []

pub take_four : (xs : List ℕ) → 4 ≤ length xs → take 4 xs ≡ four xs
take_four [] h = absurd (omega arith)
take_four (a ∷ []) h = absurd (omega arith)
take_four (a ∷ b ∷ []) h = absurd (omega arith)
take_four (a ∷ b ∷ c ∷ []) h = absurd (omega arith)
take_four (a ∷ b ∷ c ∷ d ∷ xs) h = refl

abbrev SpeltBy : List ℕ → ℕ → Type 0
SpeltBy xs n = Spelling (digit (get_or xs 0 0)) (digit (get_or xs 1 0)) (digit (get_or xs 2 0)) (digit (get_or xs 3 0)) n

spelt_by : (xs : List ℕ) (n : ℕ) → number xs ≡ Some n → SpeltBy xs n
spelt_by xs n e = spelling (digit (get_or xs 0 0)) (digit (get_or xs 1 0)) (digit (get_or xs 2 0)) (digit (get_or xs 3 0)) n e

module _ (xs : List ℕ) (n : ℕ) (s : SpeltBy xs n) where
  small_a : s.a < 16
  small_a = digit_small (get_or xs 0 0) s.a s.first

  small_b : s.b < 16
  small_b = digit_small (get_or xs 1 0) s.b s.second

  small_c : s.c < 16
  small_c = digit_small (get_or xs 2 0) s.c s.third

  small_d : s.d < 16
  small_d = digit_small (get_or xs 3 0) s.d s.fourth

  spelt_digits : map lower (four xs) ≡ digits n
  spelt_digits =
      let ea : n / 4096 ≡ s.a = omega (arith, s.sum, small_a, small_b, small_c, small_d) in
      let eb : n / 256 % 16 ≡ s.b = omega (arith, s.sum, small_a, small_b, small_c, small_d) in
      let ec : n / 16 % 16 ≡ s.c = omega (arith, s.sum, small_a, small_b, small_c, small_d) in
      let ed : n % 16 ≡ s.d = omega (arith, s.sum, small_a, small_b, small_c, small_d) in
      let la = digit_is (get_or xs 0 0) s.a s.first in
      let lb = digit_is (get_or xs 1 0) s.b s.second in
      let lc = digit_is (get_or xs 2 0) s.c s.third in
      let ld = digit_is (get_or xs 3 0) s.d s.fourth in
      rw (ea, eb, ec, ed, la, lb, lc, ld)

-- the digits of a number that bytes spell are those bytes in lower case
pub digits_read : (xs : List ℕ) (n : ℕ) → 4 ≤ length xs → number xs ≡ Some n → map lower (take 4 xs) ≡ digits n
digits_read xs n h e = ap (map lower) (take_four xs h) ∙ spelt_digits xs n (spelt_by xs n e)

-- bytes that are a number's digits, in either case, spell it
pub digits_spell : (xs : List ℕ) (n : ℕ) → 4 ≤ length xs → n < 65536 → map lower (take 4 xs) ≡ digits n → number xs ≡ Some n
digits_spell xs n h l e =
    let f : map lower (four xs) ≡ digits n = ap (map lower) (sym (take_four xs h)) ∙ e in
    let value : (x d : ℕ) → d < 16 → lower x ≡ hex_char d → digit x ≡ Some d = λ x d k q. sym (digit_lower x) ∙ ap digit q ∙ digit_char d k in
    let a = value (get_or xs 0 0) (n / 4096) (omega arith) (cc) in
    let b = value (get_or xs 1 0) (n / 256 % 16) (omega arith) (cc) in
    let c = value (get_or xs 2 0) (n / 16 % 16) (omega arith) (cc) in
    let d = value (get_or xs 3 0) (n % 16) (omega arith) (cc) in
    let s : n / 4096 * 4096 + n / 256 % 16 * 256 + n / 16 % 16 * 16 + n % 16 ≡ n = omega arith in
    rw (a, b, c, d) (ap Some s)

pub digits_lower : (n : ℕ) → n < 65536 → map lower (digits n) ≡ digits n
digits_lower n l =
    let a = lower_char (n / 4096) (omega arith) in
    let b = lower_char (n / 256 % 16) (omega arith) in
    let c = lower_char (n / 16 % 16) (omega arith) in
    let d = lower_char (n % 16) (omega arith) in
    rw (a, b, c, d)
