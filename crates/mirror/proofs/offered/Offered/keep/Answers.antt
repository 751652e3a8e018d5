use Rattle.std.proofs.Common.{Some, take, ap, ◌∙◌, arith}
use Rattle.slices.specs.Answers.{told}
use Rattle.handshake.specs.Judged.{version_in}
use Rattle.handshake.specs.Servers.{objection_number}
use Rattle.mirror.proofs.Keeping.{kept_long, kept_few, kept_told}
use Rattle.mirror.proofs.offered.Offered.keep.Goals as goal

pub invariant_of-self : goal.invariant_of-self
invariant_of-self c =
    let o = c.args.self.now in
    let h = c.resume-rows.ensures.held in
    record {
      long =
          kept_long o.versions o.count (omega arith) (omega arith) (version_in (Some c.args.line.now)) _ _ h.0 h.1 c.keep_version-kept.result _ _ c.keep_version-kept.ensures.keeps;
      few =
          let f = kept_few o.versions o.count (omega arith) (omega arith) (version_in (Some c.args.line.now)) _ _ h.0 h.1 c.keep_version-kept.result _ _ c.keep_version-kept.ensures.keeps in
          omega arith;
    }

pub returns : goal.returns
returns c =
    let o = c.args.self.now in
    let h = c.resume-rows.ensures.held in
    ap (λ n. told (λ _. take n c.keep_version-kept.new.rows.rows.now) objection_number c.keep_version-kept.result) c.len-self.ensures
    ∙ kept_told o.versions o.count (omega arith) (omega arith) (version_in (Some c.args.line.now)) _ _ h.0 h.1 c.keep_version-kept.result _ _ c.keep_version-kept.ensures.keeps
