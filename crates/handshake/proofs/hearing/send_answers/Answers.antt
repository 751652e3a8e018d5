use Rattle.std.proofs.Common.{ℕ, List, [], ◌∷◌, refl, sym, ap}
use Rattle.host.proofs.Exits.{told_err}
use Rattle.host.proofs.Peering.{begun, sent_stop}
use Rattle.slices.specs.Names.{name_bytes}
use Rattle.packetline.specs.Packets.{flush}
use Rattle.handshake.specs.Judged.{version_line}
use Rattle.handshake.specs.Servers.{answers}
use Rattle.process.proofs.Lines.{sent_then, sent_last}
use Rattle.handshake.proofs.hearing.send_answers.Goals as goal

pub returns-in_err-send_pair : goal.returns-in_err-send_pair
returns-in_err-send_pair g c =
    let first = ap (λ (b : List ℕ). answers b c.args.version) (sym c.as_bytes.ensures.value) in
    sent_stop (begun {left = answers (name_bytes c.args.prefix.now) c.args.version} refl) first _ _ c.in_err-send_pair.ensures (told_err c.from_residual.result c.from_residual.ensures.1)

pub returns-in_err-send_version : goal.returns-in_err-send_version
returns-in_err-send_version g c =
    let first = ap (λ (b : List ℕ). answers b c.args.version) (sym c.as_bytes.ensures.value) in
    sent_then first c.in_ok-send_pair.ensures (sent_stop (begun {left = version_line c.args.version ∷ flush ∷ []} refl) {x = version_line c.args.version} {xs = flush ∷ []} refl _ _ c.in_err-send_version.ensures (told_err c.from_residual-in_err-send_version.result c.from_residual-in_err-send_version.ensures.1))

pub returns : goal.returns
returns g c =
    let first = ap (λ (b : List ℕ). answers b c.args.version) (sym c.as_bytes.ensures.value) in
    sent_then first c.in_ok-send_pair.ensures (sent_then {x = version_line c.args.version} {xs = flush ∷ []} refl c.in_ok-send_version.ensures (sent_last {x = flush} (begun {left = flush ∷ []} refl) refl c.send_flush.ensures))
