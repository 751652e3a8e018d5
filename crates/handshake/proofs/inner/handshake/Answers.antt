use Rattle.std.proofs.Common.{Ok, refl, ap, rules}
use Rattle.host.proofs.Exits.{told_err}
use Rattle.host.proofs.Peering.{does_then, does_stop, does_is, does_got}
use Rattle.slices.specs.Names.{name_bytes}
use Rattle.process.specs.declared.capabilities.Capabilities.{Capabilities}
use Rattle.handshake.specs.Judged.{heard}
use Rattle.handshake.specs.Handshakes.{protocol_number, welcomed, chosen, ended, shaken, shaken_by}
use Rattle.handshake.proofs.Judging.{refused_then, right_then}
use Rattle.handshake.proofs.Shakes.{handshake_does}
use Rattle.handshake.proofs.inner.handshake.Goals as goal

pub returns-in_err-send_hello : goal.returns-in_err-send_hello
returns-in_err-send_hello g c =
    handshake_does _ _ _ c.requires (does_is (ap (heard protocol_number shaken_by) (told_err c.from_residual.result c.from_residual.ensures.1)) (does_stop _ _ _ c.in_err-send_hello.ensures refl))

pub returns-in_err-read_judged : goal.returns-in_err-read_judged
returns-in_err-read_judged g c =
    handshake_does _ _ _ c.requires (does_is (ap (heard protocol_number shaken_by) (told_err c.from_residual-in_err-read_judged.result c.from_residual-in_err-read_judged.ensures.1)) (does_then _ _ c.in_ok-send_hello.ensures (refused_then _ protocol_number (λ x. x) shaken_by _ (c.in_err-read_judged.ensures (welcomed (name_bytes c.args.prefix.now)) (λ o r k. search rules)))))

pub returns-in_err-version : goal.returns-in_err-version
returns-in_err-version g c =
    handshake_does _ _ _ c.requires (does_is (ap (heard protocol_number shaken_by) (told_err c.from_residual-in_err-version.result c.from_residual-in_err-version.ensures.1)) (does_then _ _ c.in_ok-send_hello.ensures (right_then _ _ (c.in_ok-read_judged.ensures (welcomed (name_bytes c.args.prefix.now)) (λ o r k. search rules)) (refused_then _ protocol_number (λ x. x) shaken_by _ (c.in_err-version.ensures (chosen c.args.versions.now) (λ o r k. search rules))))))

pub returns-in_err-read_judged-2 : goal.returns-in_err-read_judged-2
returns-in_err-read_judged-2 g c =
    handshake_does _ _ _ c.requires (does_is (ap (heard protocol_number shaken_by) (told_err c.from_residual-in_err-read_judged-2.result c.from_residual-in_err-read_judged-2.ensures.1)) (does_then _ _ c.in_ok-send_hello.ensures (right_then _ _ (c.in_ok-read_judged.ensures (welcomed (name_bytes c.args.prefix.now)) (λ o r k. search rules)) (right_then _ _ (c.in_ok-version.ensures (chosen c.args.versions.now) (λ o r k. search rules)) (refused_then _ protocol_number (λ x. x) shaken_by _ (c.in_err-read_judged-2.ensures ended (λ o r k. search rules)))))))

pub returns-in_err-send_desired : goal.returns-in_err-send_desired
returns-in_err-send_desired g c =
    handshake_does _ _ _ c.requires (does_is (ap (heard protocol_number shaken_by) (told_err c.from_residual-in_err-send_desired.result c.from_residual-in_err-send_desired.ensures.1)) (does_then _ _ c.in_ok-send_hello.ensures (right_then _ _ (c.in_ok-read_judged.ensures (welcomed (name_bytes c.args.prefix.now)) (λ o r k. search rules)) (right_then _ _ (c.in_ok-version.ensures (chosen c.args.versions.now) (λ o r k. search rules)) (right_then _ _ (c.in_ok-read_judged-2.ensures ended (λ o r k. search rules)) (does_stop _ _ _ c.in_err-send_desired.ensures refl))))))

pub returns-in_err-capabilities : goal.returns-in_err-capabilities
returns-in_err-capabilities g c =
    handshake_does _ _ _ c.requires (does_is (ap (heard protocol_number shaken_by) (told_err c.from_residual-in_err-capabilities.result c.from_residual-in_err-capabilities.ensures.1)) (does_then _ _ c.in_ok-send_hello.ensures (right_then _ _ (c.in_ok-read_judged.ensures (welcomed (name_bytes c.args.prefix.now)) (λ o r k. search rules)) (right_then _ _ (c.in_ok-version.ensures (chosen c.args.versions.now) (λ o r k. search rules)) (right_then _ _ (c.in_ok-read_judged-2.ensures ended (λ o r k. search rules)) (does_then _ _ c.in_ok-send_desired.ensures (refused_then _ protocol_number (λ (x : Capabilities). x.mask) shaken_by _ c.in_err-capabilities.ensures)))))))

pub returns : goal.returns
returns g c =
    handshake_does _ _ _ c.requires (does_then _ _ c.in_ok-send_hello.ensures (right_then _ _ (c.in_ok-read_judged.ensures (welcomed (name_bytes c.args.prefix.now)) (λ o r k. search rules)) (right_then _ _ (c.in_ok-version.ensures (chosen c.args.versions.now) (λ o r k. search rules)) (right_then _ _ (c.in_ok-read_judged-2.ensures ended (λ o r k. search rules)) (does_then _ _ c.in_ok-send_desired.ensures (right_then _ _ c.in_ok-capabilities.ensures (does_got (Ok (shaken c.in_ok-version.version _)) _)))))))
