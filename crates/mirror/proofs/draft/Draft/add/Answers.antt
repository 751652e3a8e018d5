use Rattle.std.proofs.Common.{[], sym, ap, ◌∙◌, subst}
use Rattle.process.specs.Gather.{goes}
use Rattle.host.proofs.Exits.{told_err}
use Rattle.mirror.proofs.Drafting.{shown, Lies, lies_in, more_lies, more_added, same_lies, same_added}
use Rattle.mirror.proofs.draft.Draft.add.Goals as goal

pub invariant_of-self : goal.invariant_of-self
invariant_of-self c =
    let d = c.args.self.now in
    let h = c.resume-rows.ensures.held in
    let l : Lies c.store_pair.new.rows.rows.now c.store_pair.new.text d.command d.pairs d.used =
    same_lies d.rows d.text d.command d.pairs d.used (lies_in d) _ h.1 _ h.0 c.args.line.now c.store_pair.result _ _ _ c.store_pair.ensures.keeps _ c.in_err-behind.was in
    record {
      rows_long = l.rows_long;
      text_long = l.text_long;
      command_fits = l.command_fits;
      pairs_fit = l.pairs_fit;
      used_fits = l.used_fits;
      used_is = l.used_is;
      rows_lie = l.rows_lie;
      text_lies = l.text_lies;
    }

pub returns-in_err-behind : goal.returns-in_err-behind
returns-in_err-behind c =
    let d = c.args.self.now in
    let h = c.resume-rows.ensures.held in
    same_added d.rows d.text d.command d.pairs d.used (lies_in d) _ h.1 _ h.0 c.args.line.now c.store_pair.result _ _ _ c.store_pair.ensures.keeps _ c.in_err-behind.was
    c.from_residual.result (told_err c.from_residual.result c.from_residual.ensures.1) _

pub invariant_of-self-2 : goal.invariant_of-self-2
invariant_of-self-2 c =
    let d = c.args.self.now in
    let h = c.resume-rows.ensures.held in
    let n = c.len-self.ensures in
    let l : Lies c.store_pair.new.rows.rows.now c.store_pair.new.text d.command c.store_pair.new.rows.count c.in_ok-behind.behind =
    more_lies d.rows d.text d.command d.pairs d.used (lies_in d) _ h.1 _ h.0 c.args.line.now c.store_pair.result _ _ _ c.store_pair.ensures.keeps _ c.in_ok-behind.was in
    let k : Lies c.store_pair.new.rows.rows.now c.store_pair.new.text d.command c.len-self.result c.in_ok-behind.behind = subst (λ x. Lies c.store_pair.new.rows.rows.now c.store_pair.new.text d.command x c.in_ok-behind.behind) (sym n) l in
    record {
      rows_long = k.rows_long;
      text_long = k.text_long;
      command_fits = k.command_fits;
      pairs_fit = k.pairs_fit;
      used_fits = k.used_fits;
      used_is = k.used_is;
      rows_lie = k.rows_lie;
      text_lies = k.text_lies;
    }

pub returns : goal.returns
returns c =
    let d = c.args.self.now in
    let h = c.resume-rows.ensures.held in
    more_added d.rows d.text d.command d.pairs d.used (lies_in d) _ h.1 _ h.0 c.args.line.now c.store_pair.result _ _ _ c.store_pair.ensures.keeps _ c.in_ok-behind.was tt
    ∙ ap (λ n. goes (shown c.store_pair.new.rows.rows.now c.store_pair.new.text d.command n) []) (sym c.len-self.ensures)
