-- The places of a table: each is free or holds a record, and no two records have one key.
-- From docs/TABLE.md, Records.
use Rattle.std.specs.Prelude.{◌≡◌, ℕ, ◌<◌, Bool, false, List, Some, None, Option, is_none, slice_index_or, ◌↔◌}
use Rattle.std.specs.Option.{option_or}
use Rattle.std.specs.Ordering.{on}
use Rattle.slices.specs.First.{first_from}
use Rattle.records.specs.declared.key.Key.{Key}
use Rattle.records.specs.declared.record.Record.{Record}
use Rattle.records.specs.Keys.{key_bytes, same_key}

-- a place is free, or holds a record
abbrev pub Place : Type 0
Place = Option Record

-- two records are the same where their keys are
abbrev pub same_record : Record → Record → Bool
same_record = on (λ r. r.key) same_key

-- whether a place holds the record with a key
abbrev pub holds_key : Key → Place → Bool
holds_key k None = false
holds_key k (Some r) = same_key r.key k

-- two places hold records with one key
abbrev pub clash : Place → Place → Bool
clash p None = false
clash p (Some r) = holds_key r.key p

-- no two places hold records with one key
abbrev pub Distinct : List Place → Type 0
Distinct places = (i j : ℕ) → i < j → clash (slice_index_or places i None) (slice_index_or places j None) ≡ false

-- the place of the record with a key
abbrev pub place_of : List Place → Key → Option ℕ
place_of places k = first_from (holds_key k) 0 places

-- place i holds a record with a key
abbrev pub HasAt : List Place → ℕ → Key → Type 0
HasAt places i k = (r : Record) × (slice_index_or places i None ≡ Some r) × (key_bytes r.key ≡ key_bytes k)

-- in words: the answer is a place exactly if that place holds a record with the key
abbrev pub IsPlaceOf : List Place → Key → Option ℕ → Type 0
IsPlaceOf places k answer = (i : ℕ) → (answer ≡ Some i) ↔ HasAt places i k

-- the first free place
abbrev pub free_place : List Place → Option ℕ
free_place places = first_from is_none 0 places

-- where a record with a key goes: to the place of the one with that key, or else to the first free one
abbrev pub place_for : List Place → Key → Option ℕ
place_for places k = option_or (place_of places k) (free_place places)
