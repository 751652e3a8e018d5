-- The numbers of refused calls.
-- From docs/ANSWERS.md.
use Rattle.std.specs.Prelude.{ℕ}
use Rattle.host.specs.declared.call.CallError.{CallError}
use Rattle.host.specs.declared.call.CallError.TheVariants.{Caller, Line}
use Rattle.host.specs.declared.call.AreaTooShort.{AreaTooShort}

abbrev pub area_number : AreaTooShort → ℕ
area_number _ = 1

-- a refused call has the number of what is at fault
abbrev pub call_number : {C E : Type 0} → (C → ℕ) → (E → ℕ) → CallError C E → ℕ
call_number caller line (Caller c) = caller c
call_number caller line (Line e) = line e

-- the only value of its type
abbrev pub too_short : AreaTooShort
too_short = record {}
