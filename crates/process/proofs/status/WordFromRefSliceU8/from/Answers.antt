use Rattle.std.proofs.Common.{◌≡◌, codes, sym, ap, arith, rules}
use Rattle.process.specs.Statuses.{word_of}
use Rattle.process.proofs.Spelt.{spelt}
use Rattle.process.proofs.status.WordFromRefSliceU8.from.Goals as goal

pub returns-in-success : goal.returns-in-success
returns-in-success c =
    let e : c.args.name.now ≡ codes "success" = spelt _ _ _ _ _ _ _ _ (omega arith) (search rules) (search rules) (search rules) (search rules) (search rules) (search rules) (search rules) in
    ap word_of (sym e)

pub returns-in-delayed : goal.returns-in-delayed
returns-in-delayed c =
    let e : c.args.name.now ≡ codes "delayed" = spelt _ _ _ _ _ _ _ _ (omega arith) (search rules) (search rules) (search rules) (search rules) (search rules) (search rules) (search rules) in
    ap word_of (sym e)
