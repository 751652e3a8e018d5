use Rattle.std.proofs.Common.{[], ◌∷◌, ◌++◌, codes, sym, refl, ap, ◌∙◌}
use Rattle.packetline.specs.Packets.{flush, packets}
use Rattle.mirror.proofs.Saying.{none_said, one_said, some_said, all_said}
use Rattle.mirror.specs.Memory.{waiting_in}
use Rattle.mirror.specs.Reflecting.{status_packets, writing_packets, reflection}
use Rattle.std.specs.Option.{option_map}
use Rattle.mirror.proofs.answer.Answer.say_content.Goals as goal

pub returns : goal.returns
returns c =
    let bytes = c.in-Some.bytes.now in
    let ok = status_packets (codes "success") in
    let said = some_said (writing_packets bytes) (flush ∷ []) (some_said ok (writing_packets bytes ++ flush ∷ []) (none_said (waiting_in c.args.self.now) (ok ++ (writing_packets bytes ++ flush ∷ []))) refl c.say_status-2.ensures.says) refl c.say_writing.ensures.says in
    all_said (one_said said refl c.say_flush.ensures.says)
    ∙ ap (λ o. waiting_in c.args.self.now ++ packets (reflection (option_map (λ x. x.now) o))) (sym c.in-Some.is)
