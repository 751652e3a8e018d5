-- Bytes as a person reads them.
-- From docs/EXCHANGE.md, What is printed of a recording.
use Rattle.std.specs.Prelude.{◌≡◌, ℕ, ◌+◌, ◌-◌, ◌*◌, ◌/◌, ◌%◌, ◌<◌, cond, ◌&&◌, List, [], ◌∷◌, ◌++◌, Ok, Err, vec_items, Option, Result, Vec, MatchOption, ◌==◌, ◌≢◌, nat_le, slice_index}
use Rattle.std.specs.Borrow.{Bor}
use Rattle.std.specs.declared.alloc.Global.{Global}
use Rattle.packetline.specs.Packets.{hex_char}
use Rattle.recording.specs.declared.failure.Failure.{Failure}
use Rattle.recording.specs.declared.failure.Failure.TheVariants.{Refused, OutOfMemory}
use Rattle.recording.specs.declared.show.NotShown.{NotShown}

-- a byte: itself if it is printable ASCII; after a backslash a backslash, a quotation mark, n for LF, or x and two hexadecimal digits
abbrev pub shown : ℕ → List ℕ
shown b =
    cond (b == 10) (92 ∷ 110 ∷ []) (cond (b == 34) (92 ∷ 34 ∷ []) (cond (b == 92) (92 ∷ 92 ∷ [])
    (cond (nat_le 32 b && nat_le b 126) (b ∷ []) (92 ∷ 120 ∷ hex_char (b / 16) ∷ hex_char (b % 16) ∷ []))))

-- one byte after another
abbrev pub escaped : List ℕ → List ℕ
escaped [] = []
escaped (b ∷ bs) = shown b ++ escaped bs

-- a list of bytes
abbrev pub AllBytes : List ℕ → Type 0
AllBytes bs = (i : ℕ) → slice_index bs i < 256

-- No two byte strings are shown alike.
abbrev pub Unambiguous : Type 0
Unambiguous = (xs ys : List ℕ) → AllBytes xs → AllBytes ys → escaped xs ≡ escaped ys → xs ≡ ys

-- the bytes that a text shows; it is refused only if it shows none, and where memory runs out nothing is said
abbrev pub ReadBack : List ℕ → Result (Vec ℕ Global) (Failure NotShown) → Type 0
ReadBack text (Ok v) = (text ≡ escaped (vec_items v)) × AllBytes (vec_items v)
ReadBack text (Err (Refused _)) = (bytes : List ℕ) → AllBytes bytes → text ≢ escaped bytes
ReadBack text (Err OutOfMemory) = Unit {0}

-- The parts of a text that is read back

-- what stands behind a prefix, if that begins the text
abbrev pub Behind : List ℕ → List ℕ → Option (Bor (List ℕ)) → Type 0
Behind text prefix r = MatchOption r ((rest : List ℕ) → text ≢ prefix ++ rest) (λ rest. text ≡ prefix ++ rest.now)

-- the value of a hexadecimal digit in lower case, or 0
abbrev pub digit_value : ℕ → ℕ
digit_value c = cond (nat_le 48 c && nat_le c 57) (c - 48) (cond (nat_le 97 c && nat_le c 102) (c - 87) 0)

-- the byte that a text shows first, if it shows any
abbrev pub lead : List ℕ → ℕ
lead text =
    cond (slice_index text 0 == 92)
    (cond (slice_index text 1 == 110) 10 (cond (slice_index text 1 == 120) (digit_value (slice_index text 2) * 16 + digit_value (slice_index text 3)) (slice_index text 1)))
    (slice_index text 0)
