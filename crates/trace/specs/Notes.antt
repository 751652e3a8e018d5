-- What a layer notes of what passes through it.
use Rattle.std.specs.Prelude.{◌≡◌, ℕ, List, [], ◌∷◌, ◌++◌, map, Option, IfSome, IsSomeAnd}
use Rattle.std.specs.Global.{Vec}
use Rattle.recording.specs.declared.line.Direction.{Direction}
use Rattle.trace.specs.declared.traced.Passed.{Passed}

-- a process, which way, and the bytes that passed
abbrev pub Note : Type 0
Note = ℕ × Direction × List ℕ

abbrev pub note_of : Passed → Note
note_of p = (p.process, p.direction, p.bytes.items)

-- one note more stands behind the others; no notes once there was no memory for one
abbrev pub Noted : Option (Vec Passed) → Note → Option (Vec Passed) → Type 0
Noted before note after = IfSome after (λ all. IsSomeAnd before (λ some. map note_of all.items ≡ map note_of some.items ++ note ∷ []))
