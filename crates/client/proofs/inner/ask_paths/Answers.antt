use Rattle.std.proofs.Common.{◌≡◌, [], ◌∷◌, codes, refl}
use Rattle.host.proofs.Exits.{told_err}
use Rattle.packetline.specs.Packets.{flush, line_pkt}
use Rattle.host.proofs.Peering.{begun, sent_more, sent_stop}
use Rattle.client.specs.Listings.{list_request}
use Rattle.process.proofs.Lines.{sent_last}
use Rattle.client.proofs.inner.ask_paths.Goals as goal

pub returns-in_err-send_line : goal.returns-in_err-send_line
returns-in_err-send_line g c =
    let next : list_request ≡ line_pkt (codes "command=list_available_blobs") ∷ flush ∷ [] = refl in
    sent_stop (begun {left = list_request} refl) next _ _ c.in_err-send_line.ensures (told_err c.from_residual.result c.from_residual.ensures.1)

pub returns : goal.returns
returns g c =
    let next : list_request ≡ line_pkt (codes "command=list_available_blobs") ∷ flush ∷ [] = refl in
    sent_last {x = flush} (sent_more (begun {left = list_request} refl) next c.in_ok-send_line.ensures) refl c.send_flush.ensures
