-- What a name says, and when two are the same.
use Rattle.std.specs.Prelude.{ℕ, Bool, List}
use Rattle.std.specs.Ordering.{on}
use Rattle.std.specs.Str.{bytes_eq}
use Rattle.slices.specs.declared.name.Name.{Name}
use Rattle.slices.specs.declared.name.OutsideLimits.{OutsideLimits}
use Rattle.slices.specs.Padding.{padded_bytes}

-- the bytes of a name
abbrev pub name_bytes : Name → List ℕ
name_bytes n = padded_bytes n.text

-- the number of the refusal of a text that is no name
abbrev pub name_number : OutsideLimits → ℕ
name_number _ = 2

-- two names are the same where their bytes are
abbrev pub same_name : Name → Name → Bool
same_name = on name_bytes bytes_eq
