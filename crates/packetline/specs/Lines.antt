-- A line by its prefix.
-- The prefixes are those of gitattributes, long running filter process; docs/PROTOCOL.md, Lines by kind.
use Rattle.std.specs.Prelude.{◌≡◌, ℕ, cond, List, [], ◌∷◌, ◌++◌, length, take, drop, Some, None, codes, Option, ◌≢◌}
use Rattle.std.specs.List.{AllByRecursion}
use Rattle.std.specs.Str.{bytes_eq}
use Rattle.packetline.specs.declared.line.Line.{Line}
use Rattle.packetline.specs.declared.line.Line.TheVariants.{Status, Capability, Version, Pathname, Other}

-- a line by its kind, with the part after its prefix; another line is whole
pub data Kind : Type 0 where
  status : List ℕ → Kind
  capability : List ℕ → Kind
  version : List ℕ → Kind
  pathname : List ℕ → Kind
  other : List ℕ → Kind

-- what a line says that borrows its part
abbrev pub line_kind : Line → Kind
line_kind (Status p) = status p.now
line_kind (Capability p) = capability p.now
line_kind (Version p) = version p.now
line_kind (Pathname p) = pathname p.now
line_kind (Other p) = other p.now

-- the part of bs after a prefix, if it begins with it
unfoldable pub after_prefix : List ℕ → List ℕ → Option (List ℕ)
after_prefix p bs = cond (bytes_eq (take (length p) bs) p) (Some (drop (length p) bs)) None

-- the kind with a part, if there is one, or else the next
abbrev pub or_next : Option (List ℕ) → (List ℕ → Kind) → Kind → Kind
or_next None k next = next
or_next (Some part) k next = k part

-- the kind of a line
abbrev pub kind_of : List ℕ → Kind
kind_of bs =
    or_next (after_prefix (codes "status=") bs) status
    (or_next (after_prefix (codes "capability=") bs) capability
    (or_next (after_prefix (codes "version=") bs) version
    (or_next (after_prefix (codes "pathname=") bs) pathname (other bs))))

-- the line that a kind writes
abbrev pub spelt : Kind → List ℕ
spelt (status p) = codes "status=" ++ p
spelt (capability p) = codes "capability=" ++ p
spelt (version p) = codes "version=" ++ p
spelt (pathname p) = codes "pathname=" ++ p
spelt (other p) = p

-- bs does not begin with p
abbrev pub NotAfter : List ℕ → List ℕ → Type 0
NotAfter bs p = (rest : List ℕ) → bs ≢ p ++ rest

-- another line begins with none of the prefixes
abbrev pub Plain : Kind → Type 0
Plain (status p) = Unit {0}
Plain (capability p) = Unit {0}
Plain (version p) = Unit {0}
Plain (pathname p) = Unit {0}
Plain (other bs) = AllByRecursion (NotAfter bs) (codes "status=" ∷ codes "capability=" ∷ codes "version=" ∷ codes "pathname=" ∷ [])

-- a line is read as a kind that writes it, and as another line only where it has no prefix
pub record IsLine (bs : List ℕ) (k : Kind) : Type 0 where
  pub writes : spelt k ≡ bs
  pub plain : Plain k
