-- Why a line, its digits or a shown text is not read: it is refused, or memory is wanting.
use Rattle.std.specs.Prelude.{ℕ, List, Some, codes, Option}
use Rattle.recording.specs.declared.failure.Failure.{Failure}
use Rattle.recording.specs.declared.failure.Failure.TheVariants.{Refused, OutOfMemory}

-- a failure in words, where `output` says a refusal in words
abbrev pub failure_text : {E : Type 0} → (E → Option (List ℕ)) → Failure E → Option (List ℕ)
failure_text output (Refused why) = output why
failure_text output OutOfMemory = Some (codes "there is no memory for its bytes")
