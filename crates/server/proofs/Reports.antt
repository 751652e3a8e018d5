-- A status that is said.
use Rattle.std.proofs.Common.{◌≡◌, ℕ, ◌≤◌, true, List, [], ◌∷◌, ◌++◌, length, Ok, Err, None, codes, Bor, Result, sym, refl, ap, subst, arith}
use Rattle.std.proofs.lemmas.Bool.Decides.{nat_tests}
use Rattle.packetline.specs.Packets.{flush, line_pkt}
use Rattle.host.specs.declared.fault.LineFault.{LineFault}
use Rattle.host.specs.declared.peer.Peer.{Peer}
use Rattle.host.specs.Worlds.{World}
use Rattle.host.specs.Acts.{Log}
use Rattle.host.specs.Peers.{Does}
use Rattle.host.specs.Talk.{send, send_all}
use Rattle.host.proofs.Peering.{begun, sent_stop}
use Rattle.process.proofs.Lines.{sent_then, sent_last}
use Rattle.server.specs.declared.response.Report.{Report}
use Rattle.server.specs.declared.response.Report.TheVariants.{Previous, Named}
use Rattle.server.specs.Responses.{sayable, report_packets, report_fault}

pub report_right : (work : List ℕ) (report : Report) → 65520 ≤ length work → sayable report ≡ true → report_fault work report ≡ None
report_right work report h k = grind (arith, nat_tests)

module _ {H : Type 0} {log : H → Log} {world : H → World} where
  only_flush : {p p' : Peer H} {r : Result (Unit {0}) LineFault} → Does log world (send flush) p r p' → Does log world (send_all (flush ∷ [])) p r p'
  only_flush t = sent_last {x = flush} (begun {left = flush ∷ []} refl) refl t

  module _ (report : Report) (name : Bor (List ℕ)) (is : report ≡ Named name) {p p₁ : Peer H} where
    pub named_stop : (e : LineFault) (r : Result (Unit {0}) LineFault) → Does log world (send (line_pkt (codes "status=" ++ name.now))) p (Err e) p₁ → r ≡ Err e → Does log world (send_all (report_packets report)) p r p₁
    named_stop e r s t = sent_stop (begun {left = report_packets report} refl) (ap report_packets is) e r s t

    pub named_said : (u : Unit {0}) → Does log world (send (line_pkt (codes "status=" ++ name.now))) p (Ok u) p₁ → {p₂ p₃ : Peer H} → p₂ ≡ p₁ → {r : Result (Unit {0}) LineFault} → Does log world (send flush) p₂ r p₃
        → Does log world (send_all (report_packets report)) p r p₃
    named_said u s {p₃ = p₃} here {r} t = sent_then (ap report_packets is) s (subst (λ q. Does log world (send_all (flush ∷ [])) q r p₃) here (only_flush t))

  pub previous_said : (report : Report) → report ≡ Previous → {p p₁ p₂ : Peer H} → p₁ ≡ p → {r : Result (Unit {0}) LineFault} → Does log world (send flush) p₁ r p₂ → Does log world (send_all (report_packets report)) p r p₂
  previous_said report is {p} {p₂ = p₂} here {r} t =
      subst (λ ps. Does log world (send_all ps) p r p₂) (sym (ap report_packets is)) (subst (λ q. Does log world (send_all (flush ∷ [])) q r p₂) here (only_flush t))
