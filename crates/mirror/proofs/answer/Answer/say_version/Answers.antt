use Rattle.std.proofs.Common.{List, ℕ, [], ◌∷◌, ◌++◌, codes, drop, ◌-◌, sym, refl, ap, ◌∙◌, arith}
use Rattle.packetline.specs.Packets.{line_pkt, flush}
use Rattle.mirror.proofs.Saying.{none_said, one_said, all_said}
use Rattle.mirror.specs.Memory.{waiting_in}
use Rattle.std.proofs.lemmas.List.{length-drop, take_all}
use Rattle.slices.specs.Names.{name_bytes}
use Rattle.handshake.specs.Servers.{answers}
use Rattle.mirror.proofs.answer.Answer.say_version.Goals as goal

pub returns : goal.returns
returns c =
    let first = ap (λ (b : List ℕ). answers b c.args.version) (sym c.as_bytes.ensures.value) in
    let at = c.decimal-at.result in
    let ds = c.decimal-at.new.digits in
    let n = length-drop at ds in
    let all = take_all (20 - at) (drop at ds) (omega arith) in
    let second = ap (λ (d : List ℕ). line_pkt (codes "version=" ++ d) ∷ flush ∷ []) (sym (all ∙ c.decimal-at.ensures.value)) in
    all_said (one_said (one_said (one_said (none_said (waiting_in c.args.self.now) (answers (name_bytes c.args.prefix.now) c.args.version)) first c.say_pair.ensures.says) second c.say_pair-2.ensures.says) refl c.say_flush.ensures.says)
