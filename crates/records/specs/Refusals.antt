-- The number of the refusal of a record for which no place is free; the other refusals of a table are numbered in driver, Answers.
-- From docs/ANSWERS.md.
use Rattle.std.specs.Prelude.{ℕ}
use Rattle.records.specs.declared.records.NoFreePlace.{NoFreePlace}

-- a record for which no place is free
abbrev pub place_number : NoFreePlace → ℕ
place_number _ = 6
