use Rattle.std.proofs.Common.{◌≤◌, sym, ap, subst, rules}
use Rattle.host.proofs.Exits.{told_err}
use Rattle.packetline.specs.Packets.{payload_length}
use Rattle.host.proofs.Wants.{content_answer, marker_answer, content_fault, content_works}
use Rattle.host.proofs.peer.Peer.read_content.Goals as goal

pub returns-in_err-read_packet : goal.returns-in_err-read_packet
returns-in_err-read_packet g c =
    record { bound = search rules; goes = record { lent = search rules; talks = content_fault _ _ _ _ _ _ _ c.in_err-read_packet.ensures.goes.talks (told_err c.from_residual.result c.from_residual.ensures.1) } }

pub returns-in-Flush : goal.returns-in-Flush
returns-in-Flush g c = record { bound = tt; goes = record { lent = search rules; talks = content_works _ _ _ _ _ _ _ c.in_ok-read_packet.ensures.goes.talks (ap content_answer (sym c.in-Flush.is)) } }

pub returns-in-Data : goal.returns-in-Data
returns-in-Data g c =
    record {
      bound = subst (λ k. payload_length k ≤ 65516) c.in-Data.is c.in_ok-read_packet.ensures.bound;
      goes = record { lent = search rules; talks = content_works _ _ _ _ _ _ _ c.in_ok-read_packet.ensures.goes.talks (ap content_answer (sym c.in-Data.is)) };
    }

pub returns-in_default : goal.returns-in_default
returns-in_default g c =
    record { bound = tt; goes = record { lent = search rules; talks = content_works _ _ _ _ _ _ _ c.in_ok-read_packet.ensures.goes.talks (marker_answer _ c.in_default.not-Flush c.in_default.not-Data) } }
