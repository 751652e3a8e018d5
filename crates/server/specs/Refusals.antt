-- A refused call: what was moved into it, and why it refused.
use Rattle.std.specs.Prelude.{◌≡◌, ℕ, Ok, Err, Result}
use Rattle.server.specs.declared.refused.Refused.{Refused}

-- the reason of a refusal
abbrev pub why : {S E : Type 0} → Refused S E → E
why r = r.why

-- a refusal has the number of its reason
abbrev pub why_number : {S E : Type 0} → (E → ℕ) → Refused S E → ℕ
why_number number r = number r.why

-- that a call went well, without what it hands back
abbrev pub went : {S : Type 0} → S → Unit {0}
went s = tt

-- what was moved into a call comes back as it was, refused or not
abbrev pub HandsBack : {S E : Type 0} → S → Result S (Refused S E) → Type 0
HandsBack s (Ok s') = s' ≡ s
HandsBack s (Err r) = r.back ≡ s
