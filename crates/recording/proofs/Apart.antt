-- No two byte strings are shown alike: what is shown can be read back byte by byte.
use Rattle.std.proofs.Common.{◌≡◌, ℕ, suc, ◌+◌, ◌-◌, ◌*◌, ◌/◌, ◌%◌, ◌<◌, Bool, true, false, cond, ◌&&◌, eqb, leb, List, [], ◌∷◌, ◌++◌, length, get_or, take, drop, Some, None, Option, sym, refl, ap, ◌∙◌, arith}
use Rattle.std.proofs.lemmas.List.{append_assoc, append-nil, take_more}
use Rattle.std.proofs.lemmas.Bool.{eqb-true, eqb-false, ne_eqb, cond-false}
use Rattle.std.proofs.lemmas.Bool.Decides.{nat_tests}
use Rattle.packetline.specs.Packets.{hex_char}
use Rattle.std.specs.Option.{unwrap_or}
use Rattle.recording.specs.Recorded.{DigitRead}
use Rattle.recording.specs.Shown.{shown, escaped, AllBytes, Unambiguous, digit_value, lead}

-- what stands behind the byte that a text shows first
abbrev behind : List ℕ → List ℕ
behind [] = []
behind (c ∷ cs) = cond (eqb c 92) (cond (eqb (get_or cs 0 0) 120) (drop 3 cs) (drop 1 cs)) cs

abbrev Reads : ℕ → List ℕ → Type 0
Reads b text = (x : List ℕ) → (lead (text ++ x) ≡ b) × (behind (text ++ x) ≡ x)

value_char : (d : ℕ) → d < 16 → digit_value (hex_char d) ≡ d
value_char d h = grind (arith, nat_tests)

-- a byte's value as a digit, or 0
pub digit_of : (b : ℕ) (d : Option ℕ) → DigitRead b d → unwrap_or d 0 ≡ digit_value b
digit_of b (Some d) h = sym (ap digit_value h.0 ∙ value_char d h.1)
digit_of b None h =
    let decimal = h (b - 48) in
    let letter = h (b - 87) in
    grind (arith, nat_tests)

plain : (b : ℕ) (t : Bool) → b < 256 → (b ≡ 92 → ⊥) → Reads b (cond t (b ∷ []) (92 ∷ 120 ∷ hex_char (b / 16) ∷ hex_char (b % 16) ∷ []))
plain b true h n x = (cond-false (eqb b 92) _ b (ne_eqb b 92 n), cond-false (eqb b 92) _ x (ne_eqb b 92 n))
plain b false h n x =
    let high = value_char (b / 16) (omega arith) in
    let low = value_char (b % 16) (omega arith) in
    let sum : b / 16 * 16 + b % 16 ≡ b = omega arith in
    (rw (high, low) sum, refl)

backslash : (b : ℕ) (t : Bool) → eqb b 92 ≡ t → b < 256
    → Reads b (cond t (92 ∷ 92 ∷ []) (cond (leb 32 b && leb b 126) (b ∷ []) (92 ∷ 120 ∷ hex_char (b / 16) ∷ hex_char (b % 16) ∷ [])))
backslash b true e h x = (sym (eqb-true b 92 e), refl)
backslash b false e h x = plain b (leb 32 b && leb b 126) h (eqb-false b 92 e) x

quotation : (b : ℕ) (t : Bool) → eqb b 34 ≡ t → b < 256
    → Reads b (cond t (92 ∷ 34 ∷ []) (cond (eqb b 92) (92 ∷ 92 ∷ []) (cond (leb 32 b && leb b 126) (b ∷ []) (92 ∷ 120 ∷ hex_char (b / 16) ∷ hex_char (b % 16) ∷ []))))
quotation b true e h x = (sym (eqb-true b 34 e), refl)
quotation b false e h x = backslash b (eqb b 92) refl h x

reads_in : (b : ℕ) (t : Bool) → eqb b 10 ≡ t → b < 256
    → Reads b (cond t (92 ∷ 110 ∷ []) (cond (eqb b 34) (92 ∷ 34 ∷ []) (cond (eqb b 92) (92 ∷ 92 ∷ []) (cond (leb 32 b && leb b 126) (b ∷ []) (92 ∷ 120 ∷ hex_char (b / 16) ∷ hex_char (b % 16) ∷ [])))))
reads_in b true e h x = (sym (eqb-true b 10 e), refl)
reads_in b false e h x = quotation b (eqb b 34) refl h x

reads : (b : ℕ) → b < 256 → Reads b (shown b)
reads b h = reads_in b (eqb b 10) refl h

some : (b : ℕ) (x : List ℕ) → b < 256 → [] ≡ shown b ++ x → ⊥
some b x h e =
    let zero : b ≡ 0 = sym (reads b h x).0 ∙ ap lead (sym e) in
    let at_zero : [] ≡ shown 0 ++ x = e ∙ ap (λ c. shown c ++ x) zero in
    let z : ◌≡◌ {A = ℕ} 0 1 = cc in
    omega arith

pub unambiguous : Unambiguous
unambiguous [] [] h k e = refl
unambiguous [] (b ∷ ys) h k e = absurd (some b (escaped ys) (k 0) e)
unambiguous (a ∷ xs) [] h k e = absurd (some a (escaped xs) (h 0) (sym e))
unambiguous (a ∷ xs) (b ∷ ys) h k e =
    let p = reads a (h 0) (escaped xs) in
    let q = reads b (k 0) (escaped ys) in
    let first : a ≡ b = sym p.0 ∙ ap lead e ∙ q.0 in
    let rest : escaped xs ≡ escaped ys = sym p.1 ∙ ap behind e ∙ q.1 in
    let more = unambiguous xs ys (λ i. h (suc i)) (λ i. k (suc i)) rest in
    cc

pub escaped_append : (xs ys : List ℕ) → escaped (xs ++ ys) ≡ escaped xs ++ escaped ys
escaped_append [] ys = refl
escaped_append (x ∷ xs) ys = ap (λ t. shown x ++ t) (escaped_append xs ys) ∙ sym (append_assoc (shown x) (escaped xs) (escaped ys))

-- one byte more
pub escaped_more : (xs : List ℕ) (i : ℕ) → i < length xs → escaped (take (i + 1) xs) ≡ escaped (take i xs) ++ shown (get_or xs i 0)
escaped_more xs i h =
    ap escaped (take_more xs i 0 h) ∙ escaped_append (take i xs) (get_or xs i 0 ∷ []) ∙ ap (λ t. escaped (take i xs) ++ t) (append-nil (shown (get_or xs i 0)))

-- what is left of a text shows no byte first, so the text shows no bytes
pub stuck : (xs bs rest : List ℕ) → AllBytes xs → AllBytes bs → 0 < length rest → ((b : ℕ) (x : List ℕ) → b < 256 → rest ≡ shown b ++ x → ⊥)
    → escaped xs ++ rest ≡ escaped bs → ⊥
stuck [] [] rest h k l n e = let z = ap length e in omega arith
stuck [] (b ∷ bs) rest h k l n e = n b (escaped bs) (k 0) e
stuck (a ∷ xs) [] rest h k l n e = some a (escaped xs ++ rest) (h 0) (sym e ∙ append_assoc (shown a) (escaped xs) rest)
stuck (a ∷ xs) (b ∷ bs) rest h k l n e =
    let p = reads a (h 0) (escaped xs ++ rest) in
    let q = reads b (k 0) (escaped bs) in
    let f = sym (append_assoc (shown a) (escaped xs) rest) ∙ e in
    stuck xs bs rest (λ i. h (suc i)) (λ i. k (suc i)) l n (sym p.1 ∙ ap behind f ∙ q.1)

-- only the byte that a text can show first is shown first
pub lead_is : (text x : List ℕ) (b : ℕ) → b < 256 → text ≡ shown b ++ x → lead text ≡ b
lead_is text x b h e = ap lead e ∙ (reads b h x).0

-- one byte more is read back
pub read_more : (text xs rest x : List ℕ) (b : ℕ) → text ≡ escaped xs ++ rest → rest ≡ shown b ++ x → text ≡ escaped (xs ++ b ∷ []) ++ x
read_more text xs rest x b e f =
    let one = escaped_append xs (b ∷ []) ∙ ap (λ t. escaped xs ++ t) (append-nil (shown b)) in
    let all = append_assoc (escaped xs) (shown b) x in
    cc
