use Rattle.std.proofs.Common.{ℕ, List, ◌++◌, codes, ap, ◌∙◌, arith}
use Rattle.std.proofs.lemmas.Slice.{between_to_end}
use Rattle.packetline.specs.Packets.{line_pkt}
use Rattle.process.proofs.Lines.{sends_same}
use Rattle.handshake.proofs.judged.send_version.Goals as goal

pub returns : goal.returns
returns g c =
    let e = between_to_end c.decimal-at.new.digits c.decimal-at.result 20 (omega (arith, c.decimal-at.ensures.len)) ∙ c.decimal-at.ensures.value in
    sends_same (ap (λ (ds : List ℕ). line_pkt (codes "version=" ++ ds)) e) c.send_pair.ensures
