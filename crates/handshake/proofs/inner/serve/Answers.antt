use Rattle.std.proofs.Common.{take, Ok, Err, refl, sym, ap, ◌∙◌, rules}
use Rattle.std.specs.Result.{result_ok}
use Rattle.host.proofs.Exits.{told_err}
use Rattle.slices.specs.Names.{name_bytes}
use Rattle.handshake.specs.Judged.{heard}
use Rattle.handshake.specs.Servers.{objection_number, hailed}
use Rattle.handshake.specs.Sharing.{met_by}
use Rattle.handshake.proofs.Serving.{serve_unhailed, serve_unoffered, serve_mismatched, serve_met, mismatch_is, serves_back}
use Rattle.process.proofs.Reading.{by_is}
use Rattle.handshake.proofs.inner.serve.Goals as goal

pub returns-in_err-read_judged : goal.returns-in_err-read_judged
returns-in_err-read_judged g c =
    by_is (ap (heard objection_number met_by) (told_err c.from_residual.result c.from_residual.ensures.1))
    (serve_unhailed (name_bytes c.args.prefix.now) c.args.rows.now (g.C.Choice.chosen c.args.choice.now) c.args.names.now objection_number (λ u. u) met_by _
    (c.in_err-read_judged.ensures (hailed (name_bytes c.args.prefix.now)) (λ o r k. search rules)))

pub returns-in_err-count : goal.returns-in_err-count
returns-in_err-count g c =
    by_is (ap (heard objection_number met_by) (told_err c.from_residual-in_err-count.result c.from_residual-in_err-count.ensures.1))
    (serve_unoffered (name_bytes c.args.prefix.now) c.args.rows.now (g.C.Choice.chosen c.args.choice.now) c.args.names.now
    (c.in_ok-read_judged.ensures (hailed (name_bytes c.args.prefix.now)) (λ o r k. search rules)) objection_number (λ n. take n c.read_versions.new.space) met_by _ c.in_err-count.ensures.goes)

pub returns-in_err-version : goal.returns-in_err-version
returns-in_err-version g c =
    let none = sym c.choose.ensures ∙ c.ok_or.ensures.ok_part ∙ ap result_ok c.in_err-version.was in
    let number = told_err c.from_residual-in_err-version.result c.from_residual-in_err-version.ensures.1 in
    serves_back _ _ _ _ (search rules) (ap (heard objection_number met_by) number ∙ ap (λ q. Ok (Err (objection_number q))) (mismatch_is c.choose.result _ c.ok_or.result c.ok_or.ensures.value c.in_err-version.was))
    (serve_mismatched (name_bytes c.args.prefix.now) c.args.rows.now (g.C.Choice.chosen c.args.choice.now) c.args.names.now (c.in_ok-read_judged.ensures (hailed (name_bytes c.args.prefix.now)) (λ o r k. search rules)) c.in_ok-count.count c.in_ok-count.ensures.goes none)

pub returns-in_err-shared : goal.returns-in_err-shared
returns-in_err-shared g c =
    let some = sym c.choose.ensures ∙ c.ok_or.ensures.ok_part ∙ ap result_ok c.in_ok-version.was in
    serves_back _ _ _ _ (search rules) (ap (heard objection_number met_by) (told_err c.from_residual-in_err-shared.result c.from_residual-in_err-shared.ensures.1))
    (serve_met (name_bytes c.args.prefix.now) c.args.rows.now (g.C.Choice.chosen c.args.choice.now) c.args.names.now (c.in_ok-read_judged.ensures (hailed (name_bytes c.args.prefix.now)) (λ o r k. search rules)) c.in_ok-count.count c.in_ok-count.ensures.goes _ some c.in_err-shared.ensures)

pub returns : goal.returns
returns g c =
    let some = sym c.choose.ensures ∙ c.ok_or.ensures.ok_part ∙ ap result_ok c.in_ok-version.was in
    serves_back _ _ _ _ (search rules) refl (serve_met (name_bytes c.args.prefix.now) c.args.rows.now (g.C.Choice.chosen c.args.choice.now) c.args.names.now (c.in_ok-read_judged.ensures (hailed (name_bytes c.args.prefix.now)) (λ o r k. search rules)) c.in_ok-count.count c.in_ok-count.ensures.goes _ some c.in_ok-shared.ensures)
