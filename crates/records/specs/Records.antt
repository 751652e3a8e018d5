-- What a table's records are to who looks for one, and what a change of one does to the places.
-- From docs/TABLE.md, Records and Changes.
use Rattle.std.specs.Prelude.{◌≡◌, ◌≢◌, ℕ, Bool, ◌&&◌, ◌==◌, ◌↔◌, if◌then◌else◌, List, [], ◌∷◌, map, Some, None, Ok, Option, Result, is_some, IsSome, IsNone, IfSome, All, Contains, find, option_map, option_to_list, flat_map, ok_or}
use Rattle.process.specs.declared.capabilities.Capabilities.{Capabilities}
use Rattle.records.specs.declared.key.Key.{Key}
use Rattle.records.specs.declared.operation.Operation.{Operation}
use Rattle.records.specs.declared.record.Record.{Record}
use Rattle.records.specs.Keys.{key_bytes, same_key}
use Rattle.records.specs.Places.{Place, holds_key}

-- the records that places hold, in order
abbrev pub held : List Place → List Record
held places = flat_map option_to_list places

-- the record with a key
abbrev pub lookup : List Place → Key → Option Record
lookup places k = find (λ r. same_key r.key k) (held places)

-- in words: the answer is a record exactly if that record is held and has the key
abbrev pub IsRecordOf : List Place → Key → Option Record → Type 0
IsRecordOf places k answer = (r : Record) → (answer ≡ Some r) ↔ (Contains (held places) r × (key_bytes r.key ≡ key_bytes k))

-- whether the result of a record's process is being read
abbrev pub is_reading : Record → Bool
is_reading r = is_some r.reading

-- the first reading record with a process number
abbrev pub reading_by : List Place → ℕ → Option Record
reading_by places n = find (λ r. r.process == n && is_reading r) (held places)

-- in words: such a record is held, or there is none
pub record IsReadingBy (places : List Place) (n : ℕ) (answer : Option Record) : Type 0 where
  pub is_one : IfSome answer (λ r. Contains (held places) r × (r.process ≡ n) × IsSome r.reading)
  pub none : IsNone answer → All (λ r. r.process ≡ n → IsNone r.reading) (held places)

-- Changes

-- the record with a key becomes another, or its place free; every other place stays
abbrev pub without : List Place → Key → List Place
without places k = map (λ p. if holds_key k p then None else p) places

abbrev pub changed : (Record → Record) → List Place → Key → List Place
changed change places k = map (λ p. if holds_key k p then option_map change p else p) places

-- a record that is reading for an operation, or no more
abbrev pub with_reading : Option Operation → Record → Record
with_reading o r = record { key = r.key; process = r.process; version = r.version; capabilities = r.capabilities; reading = o }

-- a record whose process can do other things
abbrev pub with_capabilities : Capabilities → Record → Record
with_capabilities c r = record { key = r.key; process = r.process; version = r.version; capabilities = c; reading = r.reading }

-- a record in the first free place, if there is one
abbrev pub put_first_free : List Place → Record → Option (List Place)
put_first_free [] r = None
put_first_free (None ∷ places) r = Some (Some r ∷ places)
put_first_free (Some s ∷ places) r = option_map (λ after. Some s ∷ after) (put_first_free places r)

-- a record in the place of the one with its key, or else in the first free place; 6 where none is free
abbrev pub inserted : List Place → Record → Result (List Place) ℕ
inserted places r = if is_some (lookup places r.key) then Ok (changed (λ _. r) places r.key) else ok_or (put_first_free places r) 6

-- in words: a key finds what it is said to find now, and every other key what it found before
pub record ChangesOnly (before after : List Place) (k : Key) (now : Option Record) : Type 0 where
  pub itself : (same : Key) → key_bytes same ≡ key_bytes k → lookup after same ≡ now
  pub others : (other : Key) → key_bytes other ≢ key_bytes k → lookup after other ≡ lookup before other
