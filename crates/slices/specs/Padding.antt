-- What a padded text says, and when two are the same.
use Rattle.std.specs.Prelude.{ℕ, Bool, List, take}
use Rattle.std.specs.Ordering.{on}
use Rattle.std.specs.Str.{bytes_eq}
use Rattle.slices.specs.declared.padded.Padded.{Padded}

-- the bytes of a text, without what lies behind them in its room
abbrev pub padded_bytes : {n : ℕ} → Padded n → List ℕ
padded_bytes p = take p.len p.bytes

-- two texts are the same where their bytes are
abbrev pub same_padded : {n : ℕ} → Padded n → Padded n → Bool
same_padded = on padded_bytes bytes_eq
