-- What is shown is ASCII, and so it is text.
use Rattle.std.proofs.Common.{◌≡◌, ℕ, zero, suc, ◌/◌, ◌%◌, ◌<◌, Bool, true, false, cond, ◌&&◌, eqb, leb, List, [], ◌∷◌, refl, arith}
use Rattle.std.proofs.lemmas.Bool.{leb-true, and_parts}
use Rattle.std.proofs.lemmas.Bool.Decides.{nat_tests}
use Rattle.std.proofs.lemmas.Str.{IsAscii-append, IsUtf8-from_ascii}
use Rattle.std.proofs.lemmas.Str.Ascii.{IsAscii-nil}
use Rattle.std.specs.Str.{IsAscii, IsUtf8}
use Rattle.packetline.specs.Packets.{hex_char}
use Rattle.recording.specs.Shown.{shown, escaped, AllBytes}

ascii_byte : (b : ℕ) → b < 128 → IsAscii (b ∷ [])
ascii_byte b h zero = h
ascii_byte b h (suc i) = omega arith

ascii_pair : (b c : ℕ) → b < 128 → c < 128 → IsAscii (b ∷ c ∷ [])
ascii_pair b c h k = IsAscii-append (b ∷ []) (c ∷ []) (ascii_byte b h) (ascii_byte c k)

ascii_if : (t : Bool) (xs ys : List ℕ) → (t ≡ true → IsAscii xs) → IsAscii ys → IsAscii (cond t xs ys)
ascii_if true xs ys h k = h refl
ascii_if false xs ys h k = k

digit_ascii : (d : ℕ) → d < 16 → hex_char d < 128
digit_ascii d h = grind (arith, nat_tests)

shown_ascii : (b : ℕ) → b < 256 → IsAscii (shown b)
shown_ascii b h =
    let digits = ascii_pair (hex_char (b / 16)) (hex_char (b % 16)) (digit_ascii (b / 16) (omega arith)) (digit_ascii (b % 16) (omega arith)) in
    let hidden = IsAscii-append (92 ∷ 120 ∷ []) (hex_char (b / 16) ∷ hex_char (b % 16) ∷ []) (ascii_pair 92 120 (omega arith) (omega arith)) digits in
    let small : (leb 32 b && leb b 126) ≡ true → b < 128 = λ e. omega (arith, leb-true b 126 (and_parts (leb 32 b) (leb b 126) e).1) in
    let plain = ascii_if (leb 32 b && leb b 126) (b ∷ []) (92 ∷ 120 ∷ hex_char (b / 16) ∷ hex_char (b % 16) ∷ []) (λ e. ascii_byte b (small e)) hidden in
    let pair : (c : ℕ) → c < 128 → IsAscii (92 ∷ c ∷ []) = λ c l. ascii_pair 92 c (omega arith) l in
    ascii_if (eqb b 10) _ _ (λ _. pair 110 (omega arith)) (ascii_if (eqb b 34) _ _ (λ _. pair 34 (omega arith)) (ascii_if (eqb b 92) _ _ (λ _. pair 92 (omega arith)) plain))

escaped_ascii : (bs : List ℕ) → AllBytes bs → IsAscii (escaped bs)
escaped_ascii [] h = IsAscii-nil
escaped_ascii (b ∷ bs) h = IsAscii-append (shown b) (escaped bs) (shown_ascii b (h 0)) (escaped_ascii bs (λ i. h (suc i)))

pub escaped_text : (bs : List ℕ) → AllBytes bs → IsUtf8 (escaped bs)
escaped_text bs h = IsUtf8-from_ascii (escaped bs) (escaped_ascii bs h)
