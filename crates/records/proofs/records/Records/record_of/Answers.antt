use Rattle.std.proofs.Common.{◌∙◌, sym}
use Rattle.records.proofs.Finding.{lookup_at, lookup_nowhere, record_is}
use Rattle.records.proofs.records.Records.record_of.Goals as goal

pub returns-in_err-find-clause-value : goal.returns-in_err-find-clause-value
returns-in_err-find-clause-value c = c.from_residual.ensures ∙ sym (lookup_nowhere c.args.self.now.places c.args.key.now c.in_err-find.ensures.value)

pub returns-in_err-find-clause-law : goal.returns-in_err-find-clause-law
returns-in_err-find-clause-law c =
    record_is c.args.self.now.places c.args.self.now.distinct c.args.key.now c.from_residual.result
    (c.from_residual.ensures ∙ sym (lookup_nowhere c.args.self.now.places c.args.key.now c.in_err-find.ensures.value))

pub returns-clause-value : goal.returns-clause-value
returns-clause-value c = c.get.ensures ∙ sym (lookup_at c.args.self.now.places c.args.key.now c.in_ok-find.field-0 c.in_ok-find.ensures.value)

pub returns-clause-law : goal.returns-clause-law
returns-clause-law c =
    record_is c.args.self.now.places c.args.self.now.distinct c.args.key.now c.get.result
    (c.get.ensures ∙ sym (lookup_at c.args.self.now.places c.args.key.now c.in_ok-find.field-0 c.in_ok-find.ensures.value))
