-- The bits of a mask.
use Rattle.std.proofs.Common.{◌≡◌, ℕ, zero, suc, ◌+◌, ◌-◌, ◌*◌, ◌/◌, ◌%◌, ◌^◌, ◌<◌, ◌≤◌, max, Bool, true, false, cond, not, ◌&&◌, ◌||◌, eqb, ltb, sym, refl, ap, ◌∙◌, ⊎_elim, arith}
use native.Mathlib.Nat.{div-eq_of_lt, div_self}
use lib.Bits.{bit_or, bit_xor, or_shr, or_step, xor_shr, xor_add_and}
use Rattle.std.proofs.lemmas.Nat.{pow_pos, pow-add, pow_below, shl-shr, shr-shr, one_shl}
use Rattle.std.proofs.lemmas.Bool.{cases_order, eq-eqb, ne_eqb, eqb-true, cond-true, cond-false, lt-ltb, le-ltb}
use Rattle.std.proofs.lemmas.Bool.Decides.{nat_tests}
use Rattle.process.specs.Masks.{holds, with_bit, without_bit}

bits_or : (a b k : ℕ) → bit_or a b / 2 ^ k % 2 ≡ max (a / 2 ^ k % 2) (b / 2 ^ k % 2)
bits_or a b k = ap (λ (n : ℕ). n % 2) (or_shr a b k) ∙ (let s = or_step (a / 2 ^ k) (b / 2 ^ k) in omega arith)

above : (i k : ℕ) → i < k → 2 ^ i / 2 ^ k ≡ 0
above i k h = let p = pow_below i k h in div-eq_of_lt p

below : (i k : ℕ) → k < i → 2 ^ i / 2 ^ k % 2 ≡ 0
below i k h =
    let j : ℕ = i - k - 1 in
    let e : i ≡ (j + 1) + k = omega arith in
    let q : 2 ^ i / 2 ^ k ≡ 2 ^ (j + 1) = ap (λ (n : ℕ). 2 ^ n / 2 ^ k) e ∙ ap (λ (n : ℕ). n / 2 ^ k) (pow-add 2 (j + 1) k) ∙ shl-shr (2 ^ (j + 1)) k in
    let t = pow-add 2 j 1 in omega arith

bit_pow : (i k : ℕ) → 2 ^ i / 2 ^ k % 2 ≡ cond (eqb k i) 1 0
bit_pow i k =
    ⊎_elim (λ e. ap (λ (n : ℕ). 2 ^ i / 2 ^ n % 2) e ∙ ap (λ (n : ℕ). n % 2) (div_self (pow_pos i)) ∙ sym (cond-true (eqb k i) 1 0 (eq-eqb k i e)))
    (⊎_elim (λ l. below i k l ∙ sym (cond-false (eqb k i) 1 0 (ne_eqb k i (λ e. omega arith))))
    (λ l. ap (λ (n : ℕ). n % 2) (above i k l) ∙ sym (cond-false (eqb k i) 1 0 (ne_eqb k i (λ e. omega arith)))))
    (cases_order k i)

holds_or : (m i k : ℕ) → holds (bit_or m (2 ^ i)) k ≡ (eqb k i || holds m k)
holds_or m i k =
    let s = bits_or m (2 ^ i) k in
    let p = bit_pow i k in grind (arith, nat_tests)

-- a mask of 32 bits has no bit from the 32nd on
pub holds_above : (m k : ℕ) → m < 2 ^ 32 → 32 ≤ k → false ≡ holds m k
holds_above m k h l =
    let small : m < 2 ^ k = ⊎_elim (λ e. omega (arith, ap (λ (n : ℕ). 2 ^ n) e)) (⊎_elim (λ b. omega arith) (λ b. let p = pow_below 32 k b in omega arith)) (cases_order k 32) in
    sym (ap (λ (n : ℕ). eqb (n % 2) 1) (div-eq_of_lt small))

pub holds_none : (k : ℕ) → holds 0 k ≡ true → ⊥
holds_none k h =
    let z = div-eq_of_lt (pow_pos k) in
    let o = eqb-true (0 / 2 ^ k % 2) 1 h in omega arith

pub with_bit_above : (m k : ℕ) → 32 ≤ k → m ≡ with_bit m k
unfolding with_bit
with_bit_above m k h = sym (cond-false (ltb k 32) (bit_or m (2 ^ k)) m (le-ltb k 32 h))

pub with_bit_below : (m k : ℕ) → k < 32 → bit_or m ((1 * 2 ^ k) % 2 ^ 32) ≡ with_bit m k
unfolding with_bit
with_bit_below m k h = ap (bit_or m) (one_shl k 32 h) ∙ sym (cond-true (ltb k 32) (bit_or m (2 ^ k)) m (lt-ltb k 32 h))

holds_cond : (m k j : ℕ) (b : Bool) → holds (cond b (bit_or m (2 ^ k)) m) j ≡ ((eqb j k && b) || holds m j)
holds_cond m k j true = holds_or m k j ∙ grind (arith, nat_tests)
holds_cond m k j false = grind (arith, nat_tests)

pub holds_with : (m k j : ℕ) → holds (with_bit m k) j ≡ ((eqb j k && ltb k 32) || holds m j)
unfolding with_bit
holds_with m k j = holds_cond m k j (ltb k 32)

-- a mask without a bit that it has

bits_xor : (a b k : ℕ) → bit_xor a b / 2 ^ k % 2 ≡ (a / 2 ^ k % 2 + b / 2 ^ k % 2) % 2
bits_xor a b k = ap (λ (n : ℕ). n % 2) (xor_shr a b k) ∙ (let s = xor_add_and (a / 2 ^ k) (b / 2 ^ k) in omega arith)

holds_xor : (m i k : ℕ) → holds m i ≡ true → holds (bit_xor m (2 ^ i)) k ≡ (holds m k && not (eqb k i))
holds_xor m i k h =
    let s = bits_xor m (2 ^ i) k in
    let p = bit_pow i k in
    let same : eqb k i ≡ true → m / 2 ^ k % 2 ≡ m / 2 ^ i % 2 = λ e. ap (λ n. m / 2 ^ n % 2) (eqb-true k i e) in
    grind (arith, nat_tests)

holds_unless : (m k j : ℕ) (b : Bool) → holds m k ≡ b → holds (cond b (bit_xor m (2 ^ k)) m) j ≡ (holds m j && not (eqb j k))
holds_unless m k j true h = holds_xor m k j h
holds_unless m k j false h =
    let same : eqb j k ≡ true → m / 2 ^ j % 2 ≡ m / 2 ^ k % 2 = λ e. ap (λ n. m / 2 ^ n % 2) (eqb-true j k e) in
    grind (arith, nat_tests)

pub holds_without : (m k j : ℕ) → holds (without_bit m k) j ≡ (holds m j && not (eqb j k))
unfolding without_bit
holds_without m k j = holds_unless m k j (holds m k) refl

pub without_bit_lacked : (m k : ℕ) → holds m k ≡ false → m ≡ without_bit m k
unfolding without_bit
without_bit_lacked m k h = sym (ap (λ b. cond b (bit_xor m (2 ^ k)) m) h)

pub without_bit_had : (m k : ℕ) → k < 32 → holds m k ≡ true → bit_xor m ((1 * 2 ^ k) % 2 ^ 32) ≡ without_bit m k
unfolding without_bit
without_bit_had m k l h = ap (bit_xor m) (one_shl k 32 l) ∙ sym (ap (λ b. cond b (bit_xor m (2 ^ k)) m) h)

-- a mask is known by its bits
same_odd : (a b : ℕ) → a < 2 → b < 2 → eqb a 1 ≡ eqb b 1 → a ≡ b
same_odd a b h l e = grind (arith, nat_tests)

half : (a k : ℕ) → holds (a / 2) k ≡ holds a (1 + k)
half a k = ap (λ (n : ℕ). eqb (n % 2) 1) (shr-shr a 1 k)

same_in : (n a b : ℕ) → a + b ≤ n → ((k : ℕ) → holds a k ≡ holds b k) → a ≡ b
same_in zero a b h e = omega arith
same_in (suc n) a b h e =
    let odd = same_odd (a / 2 ^ 0 % 2) (b / 2 ^ 0 % 2) (omega arith) (omega arith) (e 0) in
    let rest = same_in n (a / 2) (b / 2) (omega arith) (λ k. half a k ∙ e (1 + k) ∙ sym (half b k)) in omega arith

pub masks_same : (a b : ℕ) → ((k : ℕ) → holds a k ≡ holds b k) → a ≡ b
masks_same a b e = same_in (a + b) a b (omega arith) e
