-- What a key says, and when two are the same.
use Rattle.std.specs.Prelude.{ℕ, Bool, List}
use Rattle.std.specs.Ordering.{on}
use Rattle.std.specs.Str.{bytes_eq}
use Rattle.slices.specs.Padding.{padded_bytes}
use Rattle.records.specs.declared.key.Key.{Key}

-- the bytes of a key
abbrev pub key_bytes : Key → List ℕ
key_bytes k = padded_bytes k.text

-- two keys are the same where their bytes are
abbrev pub same_key : Key → Key → Bool
same_key = on key_bytes bytes_eq
