-- Calls on one peer with a status area, one after another.
use Rattle.std.proofs.Common.{◌≡◌, ℕ, List, Result, sym, subst}
use Rattle.host.specs.declared.fault.LineFault.{LineFault}
use Rattle.host.specs.declared.peer.Peer.{Peer}
use Rattle.host.specs.Worlds.{World}
use Rattle.host.specs.Acts.{Log}
use Rattle.host.specs.Peers.{seen, SameLent}
use Rattle.host.specs.Talk.{Wire, Got, sight, areas}
use Rattle.process.specs.declared.area.StatusArea.{StatusArea}
use Rattle.process.specs.Given.{Law, TalksBy, WorksBy}
use Rattle.process.specs.Peers.{DoesBy, DoesWith}

-- a later call's talk, with the process that was held before
pub later_with : {H A : Type 0} {log : H → Log} {world : H → World} {law : Law A} {f : Wire → Got A} {p p₁ p₂ : Peer H} {s s' : StatusArea} {r : Result A LineFault}
    → SameLent p p₁ → DoesWith log world law f p₁ s r p₂ s' → TalksBy law f (seen log world p₁) p.process (areas p₁.work.now s.bytes.now) r (seen log world p₂) (areas p₂.work.now s'.bytes.now)
later_with {log = log} {world = world} {law = law} {f = f} {p₁ = p₁} {p₂ = p₂} {s = s} {s' = s'} {r = r} same d =
    subst (λ n. TalksBy law f (seen log world p₁) n (areas p₁.work.now s.bytes.now) r (seen log world p₂) (areas p₂.work.now s'.bytes.now)) same.process d.talks

-- What a caller knows of the host and the areas that he lent, once the peer is gone: they are as the peer left them.

module _ {H A : Type 0} (log : H → Log) (world : H → World) {law : Law A} {f : Wire → Got A} {p p' : Peer H} {r : Result A LineFault} where
  pub back_by : (host : H) (work : List ℕ) → DoesBy log world law f p r p' → host ≡ p'.host.now → work ≡ p'.work.now
      → WorksBy law f (seen log world p) p.process p.work.now r (sight (log host) (world host)) work
  back_by host work d h w =
      subst (λ x. WorksBy law f (seen log world p) p.process p.work.now r (sight (log x) (world x)) work) (sym h)
      (subst (λ x. WorksBy law f (seen log world p) p.process p.work.now r (seen log world p') x) (sym w) d.talks)

  pub back_with : {s s' : StatusArea} (host : H) (work status : List ℕ) → DoesWith log world law f p s r p' s' → host ≡ p'.host.now → work ≡ p'.work.now → status ≡ s'.bytes.now
      → TalksBy law f (seen log world p) p.process (areas p.work.now s.bytes.now) r (sight (log host) (world host)) (areas work status)
  back_with {s} {s'} host work status d h w a =
      subst (λ x. TalksBy law f (seen log world p) p.process (areas p.work.now s.bytes.now) r (sight (log x) (world x)) (areas work status)) (sym h)
      (subst (λ x. TalksBy law f (seen log world p) p.process (areas p.work.now s.bytes.now) r (seen log world p') (areas x status)) (sym w)
      (subst (λ x. TalksBy law f (seen log world p) p.process (areas p.work.now s.bytes.now) r (seen log world p') (areas p'.work.now x)) (sym a) d.talks))
