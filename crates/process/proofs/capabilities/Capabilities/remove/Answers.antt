use Rattle.std.proofs.Common.{ℕ, ap, sym, ◌∙◌}
use Rattle.process.specs.Masks.{holds}
use Rattle.process.proofs.Masks.{without_bit_lacked, without_bit_had, holds_without}
use Rattle.process.proofs.capabilities.Capabilities.remove.Goals as goal

pub returns-then-not-contains-clause-value : goal.returns-then-not-contains-clause-value
returns-then-not-contains-clause-value c = without_bit_lacked c.args.self.mask c.args.k (sym c.contains.ensures.value ∙ c.if-not-contains.true)

pub returns-clause-value : goal.returns-clause-value
returns-clause-value c =
    without_bit_had c.args.self.mask c.args.k (c.contains.ensures.within c.if-not-contains.false) (sym c.contains.ensures.value ∙ c.if-not-contains.false)

pub returns-clause-law : goal.returns-clause-law
returns-clause-law c =
    let e = without_bit_had c.args.self.mask c.args.k (c.contains.ensures.within c.if-not-contains.false) (sym c.contains.ensures.value ∙ c.if-not-contains.false) in
    λ j. ap (λ (n : ℕ). holds n j) e ∙ holds_without c.args.self.mask c.args.k j
