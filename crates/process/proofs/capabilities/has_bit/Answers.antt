use Rattle.std.proofs.Common.{ℕ, ◌/◌, ◌^◌, eqb, ap, arith}
use lib.Bits.{and_mask}
use Rattle.process.proofs.Masks.{holds_above}
use Rattle.process.proofs.capabilities.has_bit.Goals as goal

pub returns-then-k-ge32-clause-value : goal.returns-then-k-ge32-clause-value
returns-then-k-ge32-clause-value c = holds_above c.args.mask c.args.k (omega arith) c.if-k-ge32.true

pub returns-clause-value : goal.returns-clause-value
returns-clause-value c = ap (λ (n : ℕ). eqb n 1) (and_mask (c.args.mask / 2 ^ c.args.k) 1)
