-- What `trim_end` leaves of a text.
use Rattle.std.proofs.Common.{◌≡◌, ℕ, Bool, true, false, List, [], ◌∷◌, ◌++◌, length, take, drop, Ok, IsUtf8, Decides, sym, refl, ap, ◌∙◌, subst, ⊎_elim, arith, take-append-drop}
use lib.Utf8.{encode, encodes, scalar, scalars}
use Rattle.std.specs.Char.{is_whitespace, is_not_whitespace}
use Rattle.std.specs.Str.{NonePass, NoCharPasses, EmptyOrEndsWithPassing, chars}
use Rattle.std.proofs.lemmas.Slice.Eq.{bytes_eq-Decides}
use Rattle.std.proofs.lemmas.List.{append-nil, nil_from_length, take_at}
use Rattle.std.proofs.lemmas.Bool.{cond-true, cond-false, not-true, not-false, cases_lt, and_parts, and_from}
use Rattle.std.proofs.lemmas.Str.{chars-nil, chars-append, chars-encodes, chars_from_encodes, encodes-chars, scalars-chars, IsUtf8-encode, IsUtf8-take, IsCharBoundary-at_seam}
use Rattle.std.proofs.lemmas.Bool.Decides.{nat_tests}
use Rattle.packetline.specs.Text.{utf8, keep, trimmed, trim_end, text_of, LessEnd}

-- a test fails where what it tells is not so
pub not_so : {P : Type 0} (b : Bool) → Decides b P → (P → ⊥) → b ≡ false
not_so true d n = absurd (n (d.0 refl))
not_so false d n = refl

-- the test tells UTF-8
pub utf8_decides : (bs : List ℕ) → Decides (utf8 bs) (IsUtf8 bs)
unfolding utf8
utf8_decides bs =
    let same = bytes_eq-Decides (encodes (chars bs)) bs in (
      λ e. let p = and_parts _ _ e in (chars bs, (p.1, same.0 p.0)),
      λ u. and_from _ _ (same.1 (encodes-chars bs u)) (scalars-chars bs u),
    )

-- white characters are characters
white_scalar : (c : ℕ) → is_not_whitespace c ≡ false → scalar c ≡ true
white_scalar c h = grind (arith, nat_tests)

pub white_scalars : (cs : List ℕ) → NonePass is_not_whitespace cs → scalars cs ≡ true
white_scalars [] h = refl
white_scalars (c ∷ cs) h = and_from _ _ (white_scalar c h.0) (white_scalars cs h.1)

-- white characters at the end go
pub all_white : (cs : List ℕ) → NonePass is_not_whitespace cs → trimmed cs ≡ []
all_white [] h = refl
all_white (c ∷ cs) h = ap (keep c) (all_white cs h.1) ∙ cond-true (is_whitespace c) [] (c ∷ []) (not-false (is_whitespace c) h.0)

less_white : (ds cs : List ℕ) → trimmed cs ≡ [] → trimmed (ds ++ cs) ≡ trimmed ds
less_white [] cs h = h
less_white (d ∷ ds) cs h = ap (keep d) (less_white ds cs h)

-- a character that is not white stays, with all before it
keep_some : (d : ℕ) (ds : List ℕ) (c : ℕ) → keep d (ds ++ c ∷ []) ≡ d ∷ (ds ++ c ∷ [])
keep_some d [] c = refl
keep_some d (e ∷ ds) c = refl

ends_dark : (ds : List ℕ) (c : ℕ) → is_not_whitespace c ≡ true → trimmed (ds ++ c ∷ []) ≡ ds ++ c ∷ []
ends_dark [] c h = cond-false (is_whitespace c) [] (c ∷ []) (not-true (is_whitespace c) h)
ends_dark (d ∷ ds) c h = ap (keep d) (ends_dark ds c h) ∙ keep_some d ds c

one_char : (c : ℕ) → scalar c ≡ true → chars (encode c) ≡ c ∷ []
one_char c s = sym (chars_from_encodes (c ∷ []) (encode c) (IsUtf8-encode c s) (append-nil (encode c)))

-- before a text that is UTF-8 the rest of a text is UTF-8
pub utf8_before : (bs xs ys : List ℕ) → IsUtf8 bs → bs ≡ xs ++ ys → IsUtf8 ys → IsUtf8 xs
utf8_before bs xs ys u e v =
    subst IsUtf8 (ap (take (length xs)) e ∙ take_at xs ys _ refl) (IsUtf8-take bs (length xs) u (IsCharBoundary-at_seam bs xs ys e v))

shut : (t : List ℕ) → IsUtf8 t → EmptyOrEndsWithPassing is_not_whitespace t → trimmed (chars t) ≡ chars t
shut t u h = ⊎_elim
    (λ l. let f = h l in
    let last = IsUtf8-encode f.0 f.4 in
    let d : chars t ≡ chars f.1 ++ f.0 ∷ [] =
    ap chars f.3 ∙ chars-append f.1 (encode f.0) (utf8_before t f.1 (encode f.0) u f.3 last)
    ∙ ap (λ (x : List ℕ). chars f.1 ++ x) (one_char f.0 f.4) in
    ap trimmed d ∙ ends_dark (chars f.1) f.0 f.2 ∙ sym d)
    (λ l. let e : chars t ≡ [] = ap chars (nil_from_length t (omega arith)) ∙ chars-nil in ap trimmed e ∙ sym e)
    (cases_lt 0 (length t))

-- the law of a text's end
pub less_end : (bs t : List ℕ) (n : ℕ) → t ≡ take n bs → NoCharPasses is_not_whitespace (drop n bs) → EmptyOrEndsWithPassing is_not_whitespace t → LessEnd bs t
less_end bs t n e w s =
    record { back = drop n bs; whole = sym (ap (λ (x : List ℕ). x ++ drop n bs) e ∙ take-append-drop n bs); blank = w; ends = s }

-- the law leaves one text
pub less_end_is : (bs t : List ℕ) → IsUtf8 t → LessEnd bs t → t ≡ trim_end bs
unfolding trim_end
less_end_is bs t u h =
    let cs = h.blank.0 in
    let d : chars bs ≡ chars t ++ cs =
    ap chars (h.whole ∙ ap (λ (x : List ℕ). t ++ x) (sym h.blank.1)) ∙ chars-append t (encodes cs) u
    ∙ ap (λ (x : List ℕ). chars t ++ x) (chars-encodes cs (white_scalars cs h.blank.2)) in
    sym (ap encodes (ap trimmed d ∙ less_white (chars t) cs (all_white cs h.blank.2) ∙ shut t u h.ends) ∙ encodes-chars t u)

-- what is answered in either case is the text of the payload
pub text_is : (bs t : List ℕ) → IsUtf8 bs → IsUtf8 t → LessEnd bs t → Ok t ≡ text_of bs
text_is bs t u v h = ap Ok (less_end_is bs t v h) ∙ sym (cond-true (utf8 bs) _ _ ((utf8_decides bs).1 u))
