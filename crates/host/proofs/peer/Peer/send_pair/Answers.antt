use Rattle.std.proofs.Common.{◌∷◌, ◌++◌, refl, arith, length-append, rules}
use Rattle.std.proofs.lemmas.List.{take-append-drop}
use Rattle.host.proofs.Exits.{told_err}
use Rattle.packetline.specs.Packets.{line_pkt}
use Rattle.packetline.proofs.Laying.{pair_sendable}
use Rattle.host.proofs.Sends.{front_works}
use Rattle.host.proofs.peer.Peer.send_pair.Goals as goal

pub lay_pair-end-requires : goal.lay_pair-end-requires
lay_pair-end-requires g c = search (rules, pair_sendable)

pub slice_bounds-send-end : goal.slice_bounds-send-end
slice_bounds-send-end g c = omega (arith, simp length-append at c.lay_pair-end.ensures.len)

pub returns-in_err-send : goal.returns-in_err-send
returns-in_err-send g c =
    let s = c.in_err-send.ensures in
    record {
      lent = search rules;
      talks = rw take-append-drop (front_works _ _ (line_pkt (c.args.left.now ++ c.args.sign ∷ c.args.right.now)) c.args.self.now.work.now _ _ _ _ c.lay_pair-end.ensures.laid _ c.lay_pair-end.ensures.len _ _ s.goes s.logs
          (told_err c.from_residual.result c.from_residual.ensures.1));
    }

pub returns : goal.returns
returns g c =
    let s = c.in_ok-send.ensures in
    record {
      lent = search rules;
      talks = rw take-append-drop (front_works _ _ (line_pkt (c.args.left.now ++ c.args.sign ∷ c.args.right.now)) c.args.self.now.work.now _ _ _ _ c.lay_pair-end.ensures.laid _ c.lay_pair-end.ensures.len _ _ s.goes s.logs refl);
    }
