use Rattle.std.proofs.lemmas.Slice.Eq.{strip_prefix_is}
use Rattle.packetline.proofs.Prefixes.{after_is}
use Rattle.packetline.proofs.line.after.Goals as goal
use Rattle.std.proofs.lemmas.Bool.Decides.{Decides-eqb}

pub returns : goal.returns
returns c =
    let h = c.strip_prefix.ensures.cases in
    record {
      value = after_is c.args.prefix.now c.args.payload.now c.strip_prefix.result h;
      law = strip_prefix_is Decides-eqb c.args.payload.now c.args.prefix.now c.strip_prefix.result h;
    }
