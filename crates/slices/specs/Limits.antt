-- What a name may be.
-- From docs/PROTOCOL.md, Names.
use Rattle.std.specs.Prelude.{ℕ, ◌<◌, ◌≤◌, Bool, ◌&&◌, List, length, nat_le, slice_index}
use Rattle.std.specs.List.{list_all}

-- a visible character of ASCII: neither a blank nor a control character
abbrev pub visible : ℕ → Bool
visible b = nat_le 33 b && nat_le b 126

-- each byte is visible
abbrev pub all_visible : List ℕ → Bool
all_visible text = list_all visible text

-- a name has 1 to 64 bytes, each visible
abbrev pub is_name : List ℕ → Bool
is_name text = nat_le 1 (length text) && (nat_le (length text) 64 && all_visible text)

-- a visible character, in words
abbrev pub Visible : ℕ → Type 0
Visible b = (33 ≤ b) × (b ≤ 126)

-- each byte is visible, place by place
abbrev pub AllVisible : List ℕ → Type 0
AllVisible text = (k : ℕ) → k < length text → Visible (slice_index text k)

-- what a name may be, in words
abbrev pub IsName : List ℕ → Type 0
IsName text = (1 ≤ length text) × (length text ≤ 64) × AllVisible text
