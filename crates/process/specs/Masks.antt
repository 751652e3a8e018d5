-- Capabilities: one bit for each desired name, the first of equal names.
-- From docs/PROTOCOL.md, The client's handshake.
use Rattle.std.specs.Prelude.{ℕ, ◌/◌, ◌%◌, ◌^◌, Bool, cond, List, Option, ◌==◌, bit_or, bit_xor, nat_lt}
use Rattle.std.specs.Str.{bytes_eq}
use Rattle.slices.specs.declared.name.Name.{Name}
use Rattle.slices.specs.First.{first_from}
use Rattle.slices.specs.Names.{name_bytes}

-- whether bit k of a mask is set
abbrev pub holds : ℕ → ℕ → Bool
holds m k = m / 2 ^ k % 2 == 1

-- the mask with bit k set too; a mask has 32 bits
unfoldable pub with_bit : ℕ → ℕ → ℕ
with_bit m k = cond (nat_lt k 32) (bit_or m (2 ^ k)) m

-- the mask without bit k
unfoldable pub without_bit : ℕ → ℕ → ℕ
without_bit m k = cond (holds m k) (bit_xor m (2 ^ k)) m

-- the place of the first of the names that are spelt so
abbrev pub place_of : List Name → List ℕ → Option ℕ
place_of names text = first_from (λ n. bytes_eq (name_bytes n) text) 0 names
