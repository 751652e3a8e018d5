use Rattle.std.proofs.Common.{ℕ, ap, ◌∙◌}
use Rattle.process.specs.Masks.{holds}
use Rattle.process.proofs.Masks.{with_bit_above, with_bit_below, holds_with}
use Rattle.process.proofs.capabilities.Capabilities.insert.Goals as goal

pub returns-then-k-ge32 : goal.returns-then-k-ge32
returns-then-k-ge32 c =
    let e = with_bit_above c.args.self.mask c.args.k c.if-k-ge32.true in
    record { value = e; law = λ j. ap (λ (n : ℕ). holds n j) e ∙ holds_with c.args.self.mask c.args.k j }

pub returns : goal.returns
returns c =
    let e = with_bit_below c.args.self.mask c.args.k c.if-k-ge32.false in
    record { value = e; law = λ j. ap (λ (n : ℕ). holds n j) e ∙ holds_with c.args.self.mask c.args.k j }
