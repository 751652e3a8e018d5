use Rattle.std.proofs.Common.{ap, ◌∙◌}
use Rattle.packetline.specs.Metadata.{pair_of}
use Rattle.requests.proofs.Lines.{line_wrong, line_kept, line_full}
use Rattle.requests.proofs.store.store_pair.Goals as goal

pub returns-in_default-clause-keeps : goal.returns-in_default-clause-keeps
returns-in_default-clause-keeps c = line_wrong c.args.at _ _ _ _ (c.in_default.ensures.value ∙ ap pair_of c.trim.ensures.value)

pub returns-in-Some-store-clause-keeps : goal.returns-in-Some-store-clause-keeps
returns-in-Some-store-clause-keeps c =
    line_kept c.args.at _ _ _ _ (c.in-Some.key.now, c.in-Some.value.now) (c.in-Some.ensures.value ∙ ap pair_of c.trim.ensures.value) _ _ _ c.in-Some-store.behind c.in-Some-store.ensures.keeps

pub returns-in-None-clause-keeps : goal.returns-in-None-clause-keeps
returns-in-None-clause-keeps c =
    line_full c.args.at _ _ _ _ (c.in-Some.key.now, c.in-Some.value.now) (c.in-Some.ensures.value ∙ ap pair_of c.trim.ensures.value) _ _ _ c.in-None.ensures.keeps
