use Rattle.std.proofs.Common.{refl, rules}
use Rattle.std.proofs.lemmas.List.{take-append-drop}
use Rattle.host.proofs.Exits.{told_err}
use Rattle.packetline.specs.Packets.{line}
use Rattle.host.proofs.Sends.{front_works}
use Rattle.host.proofs.peer.Peer.send_packet.Goals as goal

pub returns-in_err-send : goal.returns-in_err-send
returns-in_err-send g c =
    let s = c.in_err-send.ensures in
    record {
      lent = search rules;
      talks = rw take-append-drop (front_works _ _ (line c.args.payload.now) c.args.self.now.work.now _ _ _ _ c.lay_data-len.ensures.laid _ c.lay_data-len.ensures.len _ _ s.goes s.logs (told_err c.from_residual.result c.from_residual.ensures.1));
    }

pub returns : goal.returns
returns g c =
    let s = c.in_ok-send.ensures in
    record {
      lent = search rules;
      talks = rw take-append-drop (front_works _ _ (line c.args.payload.now) c.args.self.now.work.now _ _ _ _ c.lay_data-len.ensures.laid _ c.lay_data-len.ensures.len _ _ s.goes s.logs refl);
    }
