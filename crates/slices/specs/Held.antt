-- What a push of a row does, where the first `count` of the lent rows are held, and rows laid over others.
use Rattle.std.specs.Prelude.{◌≡◌, ℕ, ◌+◌, cond, ◌≢◌, List, [], ◌∷◌, ◌++◌, length, take, drop, Ok, Err, Result, nat_lt, slice_index_or, slice_set}
use Rattle.slices.specs.declared.rows.Full.{Full}

-- the number of the refusal of a row for which there is no place
abbrev pub full_number : {X : Type 0} → Full X → ℕ
full_number _ = 7

-- a refusal as a push tells it: its number and the row that it hands back
abbrev pub handed_back : {X : Type 0} → Full X → ℕ × X
handed_back e = (full_number e, e.row)

-- a push, computed: its answer, and the rows and the count after it
abbrev pub pushed : {X : Type 0} → List X → ℕ → X → Result (Unit {0}) (ℕ × X) × List X × ℕ
pushed rows count row = cond (nat_lt count (length rows)) (Ok tt, slice_set rows count row, count + 1) (Err (7, row), rows, count)

-- in words: the held rows end with the new one and each other place stays, or each place is held and nothing changes
abbrev pub IsPush : {X : Type 0} → List X → ℕ → X → Result (Unit {0}) (ℕ × X) → List X → ℕ → Type 0
IsPush {X} rows count row (Ok _) after held =
    (take held after ≡ take count rows ++ row ∷ []) × (held ≡ count + 1) × (length after ≡ length rows) × ((k : ℕ) (d : X) → k ≢ count → slice_index_or after k d ≡ slice_index_or rows k d)
IsPush rows count row (Err e) after held = (count ≡ length rows) × (e ≡ (7, row)) × (after ≡ rows) × (held ≡ count)

-- rows laid over the front of others
abbrev pub rows_over : {X : Type 0} → List X → List X → List X
rows_over new rows = new ++ drop (length new) rows
