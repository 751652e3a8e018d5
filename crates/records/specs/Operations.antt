-- The operations of a filter, and the names that a table desires of a process.
-- The names are those of gitattributes, long running filter process; docs/TABLE.md, Keys and operations.
use Rattle.std.specs.Prelude.{ℕ, List, [], ◌∷◌, codes}
use Rattle.records.specs.declared.operation.Operation.{Operation}
use Rattle.records.specs.declared.operation.Operation.TheVariants.{Clean, Smudge}

-- the name of an operation
abbrev pub operation_name : Operation → List ℕ
operation_name Clean = codes "clean"
operation_name Smudge = codes "smudge"

-- the names that a table desires: the operations, and delay, which is none
abbrev pub desired : List (List ℕ)
desired = codes "clean" ∷ codes "smudge" ∷ codes "delay" ∷ []

-- the place of an operation's name among them
abbrev pub operation_place : Operation → ℕ
operation_place Clean = 0
operation_place Smudge = 1
