use Rattle.std.proofs.Common.{length, sym, ap, ◌∙◌}
use Rattle.std.proofs.lemmas.List.{length-map}
use Rattle.slices.specs.Names.{name_bytes}
use Rattle.mirrored.proofs.Shaking.{greets}
use Rattle.mirrored.proofs.greeting.greet.Goals as goal

pub returns : goal.returns
returns c =
    let x = c.new-wanted.result in
    greets x.names x.desired (name_bytes x.prefix) x.called _ c.args.process c.args.work.now _ _ _ c.handshake.result
    (sym (length-map x.names name_bytes) ∙ ap length x.desired)
    c.handshake.ensures.goes c.handshake.ensures.itself
