use Rattle.std.proofs.Common.{ℕ, List, [], Ok, refl, sym, ap, rules, arith}
use Rattle.host.proofs.Exits.{told_err}
use Rattle.host.proofs.Peering.{later}
use Rattle.process.proofs.Gathers.{text_falls}
use Rattle.handshake.specs.Judged.{heard}
use Rattle.handshake.specs.Servers.{objection_number}
use Rattle.handshake.proofs.VersionsLoop.{versions_first, versions_fault, versions_end, versions_wrong, versions_more, kept_wrong, held_front, offers_back}
use Rattle.handshake.proofs.hearing.read_versions.Goals as goal

pub loop-n-init : goal.loop-n-init
loop-n-init g c = (refl, ([], (refl, c.new-rows.ensures.empty.1, omega arith), versions_first c.new-rows.result.rows.now c.args.peer.now))

pub returns-in_err-n-clause-goes : goal.returns-in_err-n-clause-goes
returns-in_err-n-clause-goes g c =
    let (lender, (vs, holding, on)) = c.loop-n.invariant in
    offers_back c.new-rows.ensures.empty.0 (search rules) (ap (heard objection_number _) (told_err c.from_residual.result c.from_residual.ensures.1))
    (versions_fault _ _ _ vs holding on _ c.in_err-n.ensures.goes)

pub returns-in_err-keep_version-clause-goes : goal.returns-in_err-keep_version-clause-goes
returns-in_err-keep_version-clause-goes g c =
    let (lender, (vs, holding, on)) = c.loop-n.invariant in
    let k = c.in_err-keep_version.ensures.keeps c.new-rows.result.rows.now vs holding in
    offers_back c.new-rows.ensures.empty.0 (search rules) (ap (heard objection_number _) (told_err c.from_residual-in_err-keep_version.result c.from_residual-in_err-keep_version.ensures.1))
    (versions_wrong _ _ _ vs (kept_wrong vs _ _ _ _ _ k.1 k.0) on _ c.in_ok-n.ensures.goes _ c.in-Some.is _ c.front.ensures _ (sym k.1))

pub loop-n-smaller : goal.loop-n-smaller
loop-n-smaller g c =
    let (lender, (vs, holding, on)) = c.loop-n.invariant in
    text_falls (later on.lent c.in_ok-n.ensures.goes [])

pub loop-n-preserved : goal.loop-n-preserved
loop-n-preserved g c =
    let (lender, (vs, holding, on)) = c.loop-n.invariant in
    let k = c.in_ok-keep_version.ensures.keeps c.new-rows.result.rows.now vs holding in
    (search rules, (_, k.0, versions_more _ _ _ vs holding on _ c.in_ok-n.ensures.goes _ c.in-Some.is _ c.front.ensures _ (sym k.1)))

pub returns-clause-goes : goal.returns-clause-goes
returns-clause-goes g c =
    let (lender, (vs, holding, on)) = c.loop-n.invariant in
    offers_back c.new-rows.ensures.empty.0 (search rules) (ap (λ (ws : List ℕ). Ok (Ok ws)) (held_front _ _ _ vs _ _ holding (search rules) c.len.ensures))
    (versions_end _ _ _ vs holding on _ c.in_ok-n.ensures.goes c.in_default.is)
