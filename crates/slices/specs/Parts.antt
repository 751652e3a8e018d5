-- What a part of a byte string is.
use Rattle.std.specs.Prelude.{ℕ, List, take, drop}
use Rattle.slices.specs.declared.part.Part.{Part}

-- the bytes of a part
abbrev pub part : List ℕ → Part → List ℕ
part bytes p = take p.len (drop p.at bytes)
