-- What `parse` answers of bytes, and of the digits of a number.
use Rattle.std.proofs.Common.{◌≡◌, ℕ, zero, suc, ◌^◌, ◌<◌, Bool, true, false, cond, eqb, List, [], ◌∷◌, length, get_or, drop, Some, None, Ok, Err, IsUtf8, IsAscii, decimal, Decides, Bor, Option, Result, MatchOption, MatchResult, sym, refl, ap, ◌∙◌, subst, arith, lit<}
use Rattle.std.specs.Str.Parse.{without_leading_plus, digits_value, AllDigits, IsNumeral, ParsesUnsigned}
use Rattle.std.specs.Result.{result_ok}
use Rattle.std.specs.Str.{all_ascii_digits}
use Rattle.std.proofs.lemmas.Fmt.{decimal_is_IsNumeral}
use Rattle.std.proofs.lemmas.Str.Parse.{IsNumeralModel, without_leading_plus_none, digit_from_value, numerals_by_value, tells_all_ascii_digits}
use Rattle.std.proofs.lemmas.Bool.{cond-true, cond-false, eqb-true}
use Rattle.std.proofs.lemmas.Str.{IsUtf8-nil, IsUtf8-from_ascii}
use Rattle.std.proofs.lemmas.Bool.Decides.{Decides-and, Decides-ltb, Decides-like}
use Rattle.packetline.specs.Text.{is_number, number_of}
use Rattle.packetline.proofs.Texts.{not_so}

own : IsNumeralModel (λ ds. all_ascii_digits ds ≡ true) (digits_value 10)
own = numerals_by_value _ tells_all_ascii_digits

-- the test tells the numerals that fit
number_decides : (bs : List ℕ) → Decides (is_number bs) (IsNumeral 10 (without_leading_plus bs) × (digits_value 10 (without_leading_plus bs) < 2 ^ 64))
unfolding is_number
number_decides bs =
    let ds = without_leading_plus bs in
    Decides-like (is_number bs) (λ h. ((h.1.0, own.to ds h.0), h.1.1)) (λ h. (own.from ds h.0.1, (h.0.0, h.1)))
    (Decides-and _ _ (λ e. e, λ e. e) (Decides-and _ _ (Decides-ltb 0 (length ds)) (Decides-ltb (digits_value 10 ds) (2 ^ 64))))

no_number : (bs : List ℕ) → (IsNumeral 10 (without_leading_plus bs) × (digits_value 10 (without_leading_plus bs) < 2 ^ 64) → ⊥) → None ≡ number_of bs
no_number bs n = sym (cond-false (is_number bs) _ _ (not_so (is_number bs) (number_decides bs) n))

-- what `parse` answers is the number of the bytes
pub number_is : {E : Type 0} (bs : List ℕ) (r : Result ℕ E) → ParsesUnsigned 64 10 bs r → result_ok r ≡ number_of bs
number_is bs (Ok x) h = ap Some h.1 ∙ sym (cond-true (is_number bs) _ _ ((number_decides bs).1 h.0))
number_is bs (Err e) h = no_number bs h

-- digits are ASCII, and so is a `+`
ascii_cons : (c : ℕ) (cs : List ℕ) → c < 128 → IsAscii cs → IsAscii (c ∷ cs)
ascii_cons c cs l h zero = l
ascii_cons c cs l h (suc i) = h i

digits_ascii : (ds : List ℕ) → AllDigits 10 ds → IsAscii ds
digits_ascii [] h = λ i. lit< tt
digits_ascii (c ∷ cs) h = ascii_cons c cs (omega (arith, digit_from_value c h.0)) (digits_ascii cs h.1)

signed_ascii : (b : Bool) (c : ℕ) (cs : List ℕ) → (b ≡ true → c ≡ 43) → AllDigits 10 (drop (cond b 1 0) (c ∷ cs)) → IsAscii (c ∷ cs)
signed_ascii true c cs p h = ascii_cons c cs (omega (arith, p refl)) (digits_ascii cs h)
signed_ascii false c cs p h = digits_ascii (c ∷ cs) h

numeral_utf8 : (bs : List ℕ) → AllDigits 10 (without_leading_plus bs) → IsUtf8 bs
numeral_utf8 [] h = IsUtf8-nil
numeral_utf8 (c ∷ cs) h = IsUtf8-from_ascii (c ∷ cs) (signed_ascii (eqb c 43) c cs (eqb-true c 43) h)

-- bytes that are not UTF-8 are no number
pub not_utf8 : (bs : List ℕ) → (IsUtf8 bs → ⊥) → None ≡ number_of bs
not_utf8 bs n = no_number bs (λ h. n (numeral_utf8 bs h.0.1))

-- what is left of bytes that were read as UTF-8: themselves, or that they are not
pub text_read : {E : Type 0} (Q : E → Type 0) (bs : List ℕ) (r : Result (Bor (List ℕ)) E) (o : Option (Bor (List ℕ)))
    → MatchResult r (λ s. (s.now ≡ bs) × IsUtf8 bs) (λ e. (IsUtf8 bs → ⊥) × Q e) → o ≡ result_ok r → MatchOption o (IsUtf8 bs → ⊥) (λ s. s.now ≡ bs)
text_read Q bs (Ok s) o h e = subst (λ p. MatchOption p (IsUtf8 bs → ⊥) (λ s. s.now ≡ bs)) (sym e) h.0
text_read Q bs (Err x) o h e = subst (λ p. MatchOption p (IsUtf8 bs → ⊥) (λ s. s.now ≡ bs)) (sym e) h.0

-- no `+` stands before digits
no_plus : (ds : List ℕ) → IsNumeral 10 ds → get_or ds 0 0 ≡ 43 → ⊥
no_plus [] h e = omega (arith, h.0)
no_plus (c ∷ cs) h e = omega (arith, digit_from_value c h.1.0, e)

-- the digits of a number write it
pub decimal_number : (n : ℕ) → n < 2 ^ 64 → number_of (decimal n) ≡ Some n
decimal_number n h =
    let r = decimal_is_IsNumeral n h in
    let plain = without_leading_plus_none (decimal n) (no_plus (decimal n) r.0) in
    let v : digits_value 10 (without_leading_plus (decimal n)) ≡ n = ap (digits_value 10) plain ∙ r.1 in
    let is = (number_decides (decimal n)).1 (subst (IsNumeral 10) (sym plain) r.0, subst (λ m. m < 2 ^ 64) (sym v) h) in
    cond-true (is_number (decimal n)) _ _ is ∙ ap Some v
