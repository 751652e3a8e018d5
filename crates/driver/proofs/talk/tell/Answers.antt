use Rattle.std.proofs.Common.{map, take, codes, ◌++◌, refl, ap, ◌∙◌}
use Rattle.rules.specs.Steps.{line_if}
use Rattle.client.specs.Requests.{meta_line}
use Rattle.driver.specs.Knowing.{known_lines}
use Rattle.driver.proofs.Saying.{exchanged}
use Rattle.driver.proofs.Lines.{known_by}
use Rattle.driver.proofs.talk.tell.Goals as goal

pub returns : goal.returns
returns g c =
    exchanged c.args.operation c.args.known.now.context.now.rela_path.now (known_lines c.args.known.now) c.as_bytes.result.now (map meta_line c.as_slice.result.now) c.args.content.now c.as_bytes.ensures
    (ap (map meta_line) c.as_slice.ensures
    ∙ known_by c.args.known.now _ c.then_some.result refl c.then_some.ensures (ap (λ n. map meta_line (take n c.new-rows.result.rows.now)) c.new-rows.ensures.empty.1) c.add.ensures.lines c.add-2.ensures.lines
    (c.add-3.ensures.lines ∙ ap (λ d. map meta_line (take c.add-2.new.rows.count c.add-2.new.rows.rows.now) ++ line_if (codes "treeish") d) c.borrowed.ensures)
    (c.add-4.ensures.lines ∙ ap (λ d. map meta_line (take c.add-3.new.rows.count c.add-3.new.rows.rows.now) ++ line_if (codes "blob") d) c.borrowed-2.ensures)
    c.add-5.ensures.lines)
    c.invoke.ensures
