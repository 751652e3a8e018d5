use Rattle.std.proofs.Common.{sym, ap, ◌∙◌}
use Rattle.std.specs.Result.{result_ok}
use Rattle.handshake.proofs.Offering.{version_kept}
use Rattle.handshake.proofs.hearing.keep_version.Goals as goal

pub returns-clause-keeps : goal.returns-clause-keeps
returns-clause-keeps c = version_kept _ _ _ _ c.in_ok-version.version c.push.result _ (sym c.version_in.ensures ∙ c.ok_or.ensures.ok_part ∙ ap result_ok c.in_ok-version.was) _ c.push.ensures.value (ap result_ok c.in_ok-push.was)
