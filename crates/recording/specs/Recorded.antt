-- A recorded exchange as text: a record a line, `>` for what the client sent, `<` for what it was given, a blank, and the bytes in lower-case hexadecimal digits.
-- From docs/EXCHANGE.md, A recording.
use Rattle.std.specs.Prelude.{◌≡◌, ℕ, ◌/◌, ◌%◌, ◌<◌, List, [], ◌∷◌, length, Some, None, Ok, Err, vec_items, codes, Option, Result, Vec, ◌≢◌}
use Rattle.std.specs.declared.alloc.Global.{Global}
use Rattle.packetline.specs.Packets.{hex_char}
use Rattle.recording.specs.declared.line.Direction.{Direction}
use Rattle.recording.specs.declared.line.Direction.TheVariants.{Sent, Given}
use Rattle.recording.specs.declared.failure.Failure.{Failure}
use Rattle.recording.specs.declared.failure.Failure.TheVariants.{Refused, OutOfMemory}
use Rattle.recording.specs.declared.line.Record.{Record}
use Rattle.recording.specs.declared.line.BadLine.{BadLine}
use Rattle.recording.specs.declared.line.BadLine.TheVariants.{NoDirection, NoBlank, NoBytes, NotHexadecimal}
use Rattle.recording.specs.declared.line.NotHexadecimal.{NotHexadecimal as NoHexadecimal}
use Rattle.recording.specs.Shown.{AllBytes}

-- two digits a byte
abbrev pub hex_of : List ℕ → List ℕ
hex_of [] = []
hex_of (b ∷ bs) = hex_char (b / 16) ∷ hex_char (b % 16) ∷ hex_of bs

-- the sign of a direction
abbrev pub sign : Direction → ℕ
sign Sent = 62
sign Given = 60

-- the line of a record
abbrev pub record_line : Direction → List ℕ → List ℕ
record_line d bytes = sign d ∷ 32 ∷ hex_of bytes

-- an empty line, or a comment
abbrev pub SaysNothing : List ℕ → Type 0
SaysNothing [] = Unit {0}
SaysNothing (c ∷ cs) = c ≡ 35

-- digits that write no bytes
abbrev pub IsNotHexadecimal : List ℕ → Type 0
IsNotHexadecimal digits = (bytes : List ℕ) → AllBytes bytes → digits ≢ hex_of bytes

-- why a line is refused: its first byte is no sign; what follows the sign is no blank; nothing follows the blank; or what follows it is not the digits of bytes
abbrev pub Why : BadLine → List ℕ → Type 0
Why NoDirection line = (d : Direction) (rest : List ℕ) → line ≢ sign d ∷ rest
Why NoBlank line = (d : Direction) × (rest : List ℕ) × (line ≡ sign d ∷ rest) × ((digits : List ℕ) → rest ≢ 32 ∷ digits)
Why NoBytes line = (d : Direction) × (line ≡ sign d ∷ 32 ∷ [])
Why NotHexadecimal line = (d : Direction) × (digits : List ℕ) × (line ≡ sign d ∷ 32 ∷ digits) × (0 < length digits) × IsNotHexadecimal digits

-- a line that neither says nothing nor is a record
pub record NoLine (e : BadLine) (line : List ℕ) : Type 0 where
  pub something : SaysNothing line → ⊥
  pub no_record : (d : Direction) (bytes : List ℕ) → AllBytes bytes → 0 < length bytes → line ≢ record_line d bytes
  pub why : Why e line

-- what is read of a line; where memory runs out nothing is said
abbrev pub Parsed : List ℕ → Result (Option Record) (Failure BadLine) → Type 0
Parsed line (Ok None) = SaysNothing line
Parsed line (Ok (Some r)) = (line ≡ record_line r.direction (vec_items r.bytes)) × (0 < length (vec_items r.bytes)) × AllBytes (vec_items r.bytes)
Parsed line (Err (Refused why)) = NoLine why line
Parsed line (Err OutOfMemory) = Unit {0}

-- why a line is refused, in words
abbrev pub bad_line_text : BadLine → List ℕ
bad_line_text NoDirection = codes "it begins with neither > nor < nor #"
bad_line_text NoBlank = codes "no blank follows its sign"
bad_line_text NoBytes = codes "it has no bytes"
bad_line_text NotHexadecimal = codes "its bytes are not pairs of lower-case hexadecimal digits"

-- The parts of a line

-- the value of a digit
abbrev pub DigitRead : ℕ → Option ℕ → Type 0
DigitRead c (Some d) = (c ≡ hex_char d) × (d < 16)
DigitRead c None = (d : ℕ) → d < 16 → c ≢ hex_char d

-- the byte that two digits write
abbrev pub ByteRead : ℕ → ℕ → Option ℕ → Type 0
ByteRead high low (Some b) = (high ≡ hex_char (b / 16)) × (low ≡ hex_char (b % 16)) × (b < 256)
ByteRead high low None = (b : ℕ) → b < 256 → high ≡ hex_char (b / 16) → low ≢ hex_char (b % 16)

-- the bytes that digits write; only memory can fail otherwise
abbrev pub BytesRead : List ℕ → Result (Vec ℕ Global) (Failure NoHexadecimal) → Type 0
BytesRead digits (Ok v) = (digits ≡ hex_of (vec_items v)) × AllBytes (vec_items v)
BytesRead digits (Err (Refused _)) = IsNotHexadecimal digits
BytesRead digits (Err OutOfMemory) = Unit {0}

-- a failure to read a record's digits, as one to read its line
abbrev pub refused_digits : Failure NoHexadecimal → Failure BadLine
refused_digits (Refused _) = Refused NotHexadecimal
refused_digits OutOfMemory = OutOfMemory
