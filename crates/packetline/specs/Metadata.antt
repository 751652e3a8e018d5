-- Metadata, which is bytes and perhaps no text: white space at both ends, and pairs of a key and a value.
-- From gitattributes, long running filter process (`key=value`), and docs/PROTOCOL.md, Metadata, for the white space.
use Rattle.std.specs.Prelude.{◌≡◌, ℕ, zero, suc, ◌-◌, Bool, true, cond, ◌&&◌, List, [], ◌∷◌, ◌++◌, length, take, drop, Some, None, Option, ◌==◌, ◌≢◌}
use Rattle.std.proofs.Math.Utf8.{encode}
use Rattle.std.specs.Borrow.{Bor}
use Rattle.std.specs.Option.{option_map}
use Rattle.std.specs.Char.{is_whitespace, is_not_whitespace}
use Rattle.std.specs.Str.{NoCharPasses, chars}
use Rattle.std.specs.List.{AllByRecursion}
use Rattle.packetline.specs.declared.metadata.Side.{Side}
use Rattle.packetline.specs.declared.metadata.Side.TheVariants.{Front, Back}
use Rattle.packetline.specs.Text.{utf8}

-- whether each character is white
abbrev pub whites : List ℕ → Bool
whites [] = true
whites (c ∷ cs) = is_whitespace c && whites cs

-- whether bytes are white space, as UTF-8 spells it
unfoldable pub blank : List ℕ → Bool
blank bs = utf8 bs && whites (chars bs)

-- the greatest number up to n that passes p, or 0
abbrev pub most : (ℕ → Bool) → ℕ → ℕ
most p zero = 0
most p (suc n) = cond (p (suc n)) (suc n) (most p n)

-- bytes at a side of others
abbrev pub put : Side → List ℕ → List ℕ → List ℕ
put Front part rest = part ++ rest
put Back part rest = rest ++ part

-- the n bytes at a side
abbrev pub part : Side → ℕ → List ℕ → List ℕ
part Front n bs = take n bs
part Back n bs = drop (length bs - n) bs

-- the bytes without the n at a side
abbrev pub rest : Side → ℕ → List ℕ → List ℕ
rest Front n bs = drop n bs
rest Back n bs = take (length bs - n) bs

-- bytes without the longest white space at a side
unfoldable pub trim_at : Side → List ℕ → List ℕ
trim_at s bs = rest s (most (λ n. blank (part s n bs)) (length bs)) bs

-- bytes without the longest white space at both sides
abbrev pub trim_both : List ℕ → List ℕ
trim_both bs = trim_at Back (trim_at Front bs)

-- bs is t with white space at a side
abbrev pub Padded : Side → List ℕ → List ℕ → Type 0
Padded s bs t = (ws : List ℕ) × (bs ≡ put s ws t) × NoCharPasses is_not_whitespace ws

-- bs has no white character at a side
abbrev pub Bare : Side → List ℕ → Type 0
Bare s bs = (c : ℕ) (cs : List ℕ) → is_whitespace c ≡ true → bs ≢ put s (encode c) cs

-- bs is t between white space, and t neither begins nor ends with a white character
pub record LessEnds (bs t : List ℕ) : Type 0 where
  pub front : List ℕ
  pub back : List ℕ
  pub whole : bs ≡ front ++ (t ++ back)
  pub front_blank : NoCharPasses is_not_whitespace front
  pub back_blank : NoCharPasses is_not_whitespace back
  pub opens : Bare Front t
  pub shuts : Bare Back t

-- a byte and the key behind it
abbrev pub prepended : ℕ → List ℕ × List ℕ → List ℕ × List ℕ
prepended b p = (b ∷ p.0, p.1)

-- key and value around the first `=`
abbrev pub pair_of : List ℕ → Option (List ℕ × List ℕ)
pair_of [] = None
pair_of (b ∷ bs) = cond (b == 61) (Some ([], bs)) (option_map (prepended b) (pair_of bs))

-- what a borrowed pair says
abbrev pub both : Bor (List ℕ) × Bor (List ℕ) → List ℕ × List ℕ
both p = (p.0.now, p.1.now)

-- no byte is `=`
abbrev pub Unequal : List ℕ → Type 0
Unequal bs = AllByRecursion (λ b. b ≢ 61) bs

-- the key has no `=`, and the pair writes the line; a line that is no pair has none
abbrev pub IsPair : List ℕ → Option (List ℕ × List ℕ) → Type 0
IsPair bs None = Unequal bs
IsPair bs (Some p) = (bs ≡ p.0 ++ 61 ∷ p.1) × Unequal p.0
