-- The lines by which a process is told what is known of a content, with the digits of its ids.
use Rattle.std.specs.Prelude.{cond, List, [], ◌∷◌, ◌++◌, codes}
use Rattle.std.specs.Option.{option_map}
use Rattle.packetline.specs.Packets.{Pkt}
use Rattle.rules.specs.Steps.{pair_line, line_if}
use Rattle.driver.specs.declared.talk.Known.{Known}

abbrev pub known_lines : Known → List Pkt
known_lines k =
    line_if (codes "ref") (option_map (λ x. x.now) k.context.now.ref_name) ++ (line_if (codes "treeish") k.treeish ++ (line_if (codes "blob") k.blob
    ++ cond k.delays (pair_line (codes "can-delay") (codes "1") ∷ []) []))
