-- What a key, the path of a file and the name of a reference may be.
-- From docs/TABLE.md, Keys and operations and What is asked.
use Rattle.std.specs.Prelude.{ℕ, ◌≤◌, Bool, ◌&&◌, List, length, nat_le}

-- a text that is not empty has at most so many bytes, of any kind
abbrev pub is_within : ℕ → List ℕ → Bool
is_within most text = nat_le 1 (length text) && nat_le (length text) most

-- the same in words
abbrev pub IsWithin : ℕ → List ℕ → Type 0
IsWithin most text = (1 ≤ length text) × (length text ≤ most)

-- a key has 1 to 128 bytes
abbrev pub is_key : List ℕ → Bool
is_key = is_within 128

abbrev pub IsKey : List ℕ → Type 0
IsKey = IsWithin 128

-- the path of a file has 1 to 4,096 bytes
abbrev pub is_path : List ℕ → Bool
is_path = is_within 4096

abbrev pub IsPath : List ℕ → Type 0
IsPath = IsWithin 4096

-- the name of a reference has 1 to 1,024 bytes
abbrev pub is_ref_name : List ℕ → Bool
is_ref_name = is_within 1024

abbrev pub IsRefName : List ℕ → Type 0
IsRefName = IsWithin 1024
