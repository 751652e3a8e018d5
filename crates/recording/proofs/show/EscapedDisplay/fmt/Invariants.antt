use Rattle.std.proofs.Common.{◌≡◌, ℕ, List, ◌++◌}
use Rattle.std.specs.Fmt.{HasWritten, IsPlainFormatter}
use Rattle.recording.specs.Shown.{escaped}
use Rattle.recording.proofs.show.EscapedDisplay.fmt.Given as goal

-- xs is shown, and the rest is left
abbrev pub invariant-loop-part : goal.invariant-loop-part
invariant-loop-part g l =
    (l.part-iterator.size ≡ 256) × ((xs : List ℕ) × (l.self.0.now ≡ xs ++ l.part-iterator.rest.now)
    × (IsPlainFormatter l.initial.f → HasWritten g.W.Write.write_str_gives l.initial.f (escaped xs) l.f))
