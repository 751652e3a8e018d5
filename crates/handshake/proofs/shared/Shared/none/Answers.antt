use Rattle.std.proofs.Common.{◌≡◌, ℕ, refl, arith}
use Rattle.std.specs.List.{IsDistinct}
use Rattle.handshake.proofs.shared.Shared.none.Goals as goal

pub invariant_of-result : goal.invariant_of-result
unfolding IsDistinct
invariant_of-result c = record { room = refl; few = omega arith; once = tt; small = λ k e. absurd (let z : ◌≡◌ {A = ℕ} 0 1 = cc in omega arith) }
