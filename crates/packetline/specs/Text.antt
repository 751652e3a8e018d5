-- A line of text, which is UTF-8 without the white space at its end, and a number in digits.
-- From docs/PROTOCOL.md, Text and Numbers: the way of gix-filter, where gitprotocol-common takes off one LF and does not ask for UTF-8.
use Rattle.std.specs.Prelude.{◌≡◌, ℕ, ◌^◌, Bool, cond, ◌&&◌, List, [], ◌∷◌, ◌++◌, length, Some, None, Ok, Err, IsUtf8, Option, Result, nat_lt}
use Rattle.std.proofs.Math.Utf8.{encodes, scalars}
use Rattle.std.specs.Str.Parse.{without_leading_plus, digits_value}
use Rattle.std.specs.Char.{is_whitespace, is_not_whitespace}
use Rattle.std.specs.Str.{NoCharPasses, EmptyOrEndsWithPassing, chars, bytes_eq, all_ascii_digits}
use Rattle.packetline.specs.declared.text.Error.{Error}
use Rattle.packetline.specs.declared.text.Error.TheVariants.{NotUtf8}

-- the number of a refusal
abbrev pub text_number : Error → ℕ
text_number NotUtf8 = 22

-- whether bytes are UTF-8: the characters that are read from them spell them
unfoldable pub utf8 : List ℕ → Bool
utf8 bs = bytes_eq (encodes (chars bs)) bs && scalars (chars bs)

-- a character and those that are kept behind it
abbrev pub keep : ℕ → List ℕ → List ℕ
keep c [] = cond (is_whitespace c) [] (c ∷ [])
keep c (d ∷ ds) = c ∷ d ∷ ds

-- characters without the white ones at their end
abbrev pub trimmed : List ℕ → List ℕ
trimmed [] = []
trimmed (c ∷ cs) = keep c (trimmed cs)

-- a text without the white space at its end
unfoldable pub trim_end : List ℕ → List ℕ
trim_end bs = encodes (trimmed (chars bs))

-- the text of a payload, or its refusal
abbrev pub text_of : List ℕ → Result (List ℕ) ℕ
text_of bs = cond (utf8 bs) (Ok (trim_end bs)) (Err (text_number NotUtf8))

-- bs is t and white space, and t is empty or ends with a character that is not white
pub record LessEnd (bs t : List ℕ) : Type 0 where
  pub back : List ℕ
  pub whole : bs ≡ t ++ back
  pub blank : NoCharPasses is_not_whitespace back
  pub ends : EmptyOrEndsWithPassing is_not_whitespace t

-- what is UTF-8 is a text and loses the white space at its end, and nothing else is a text
abbrev pub IsText : List ℕ → Result (List ℕ) ℕ → Type 0
IsText bs (Ok t) = IsUtf8 bs × LessEnd bs t
IsText bs (Err n) = IsUtf8 bs → ⊥

-- whether bytes write a number of 64 bits: one digit or more, and perhaps a `+` before them
unfoldable pub is_number : List ℕ → Bool
is_number bs = all_ascii_digits (without_leading_plus bs) && (nat_lt 0 (length (without_leading_plus bs)) && nat_lt (digits_value 10 (without_leading_plus bs)) (2 ^ 64))

-- the number that bytes write, if they do
abbrev pub number_of : List ℕ → Option ℕ
number_of bs = cond (is_number bs) (Some (digits_value 10 (without_leading_plus bs))) None
