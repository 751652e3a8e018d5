use Rattle.std.proofs.Common.{ℕ, List, refl, sym, ap, arith}
use Rattle.host.proofs.Exits.{told_err}
use Rattle.host.proofs.Peering.{begun, sent_more, sent_stop}
use Rattle.slices.specs.Names.{name_bytes}
use Rattle.handshake.specs.Judged.{version_line}
use Rattle.handshake.specs.Handshakes.{hello}
use Rattle.process.proofs.Lines.{lines_next, lines_last, sent_last, sent_then}
use Rattle.handshake.proofs.parts.send_hello.Goals as goal

pub returns-in_err-send_pair : goal.returns-in_err-send_pair
returns-in_err-send_pair g c =
    let next = ap (λ (b : List ℕ). hello b c.args.versions.now) (sym c.as_bytes.ensures.value) in
    sent_stop (begun {left = hello (name_bytes c.args.prefix.now) c.args.versions.now} refl) next _ _ c.in_err-send_pair.ensures (told_err c.from_residual.result c.from_residual.ensures.1)

pub loop-version-init : goal.loop-version-init
loop-version-init g c = begun refl

pub returns-in_err-send_version : goal.returns-in_err-send_version
returns-in_err-send_version g c =
    let first = ap (λ (b : List ℕ). hello b c.args.versions.now) (sym c.as_bytes.ensures.value) in
    let next = lines_next version_line c.args.versions.now c.loop-version.version-index 0 (omega arith) in
    sent_then first c.in_ok-send_pair.ensures (sent_stop c.loop-version.invariant next _ _ c.in_err-send_version.ensures (told_err c.from_residual-in_err-send_version.result c.from_residual-in_err-send_version.ensures.1))

pub loop-version-preserved : goal.loop-version-preserved
loop-version-preserved g c =
    let next = lines_next version_line c.args.versions.now c.loop-version.version-index 0 (omega arith) in
    sent_more c.loop-version.invariant next c.in_ok-send_version.ensures

pub returns : goal.returns
returns g c =
    let first = ap (λ (b : List ℕ). hello b c.args.versions.now) (sym c.as_bytes.ensures.value) in
    let last = lines_last version_line c.args.versions.now c.loop-version.version-index (omega arith) in
    sent_then first c.in_ok-send_pair.ensures (sent_last c.loop-version.invariant last c.send_flush.ensures)
