-- Calls on one peer, one after another.
use Rattle.std.proofs.Common.{◌≡◌, List, [], ◌∷◌, Ok, Err, Result, refl, ◌∙◌, subst}
use Rattle.packetline.specs.Packets.{Pkt}
use Rattle.host.specs.declared.fault.LineFault.{LineFault}
use Rattle.host.specs.declared.peer.Peer.{Peer}
use Rattle.host.specs.Worlds.{World}
use Rattle.host.specs.Acts.{Log}
use Rattle.host.specs.Talk.{Wire, Got, got, then, send, send_all, Works}
use Rattle.host.specs.Peers.{seen, SameLent, Does}
use Rattle.host.proofs.Talking.{talk_none, talk_then, talk_stop, talk_is, LeadsWork, leads_here}
use Rattle.host.proofs.Sends.{packet_more, packet_stop, packets_end}

pub same_peer : {H : Type 0} (p : Peer H) → SameLent p p
same_peer p = record { host = refl; process = refl; work = refl }

pub same_then : {H : Type 0} {p p₁ p₂ : Peer H} → SameLent p p₁ → SameLent p₁ p₂ → SameLent p p₂
same_then s t = record { host = t.host ∙ s.host; process = t.process ∙ s.process; work = t.work ∙ s.work }

module _ {H : Type 0} {log : H → Log} {world : H → World} where
  -- a later call's talk, with the process that was held before
  pub later : {A : Type 0} {f : Wire → Got A} {p p₁ p₂ : Peer H} {r : Result A LineFault} → SameLent p p₁ → Does log world f p₁ r p₂
      → Works f (seen log world p₁) p.process p₁.work.now r (seen log world p₂) p₂.work.now
  later {f = f} {p₁ = p₁} {p₂ = p₂} {r = r} s d = subst (λ n. Works f (seen log world p₁) n p₁.work.now r (seen log world p₂) p₂.work.now) s.process d.talks

  pub does_then : {A B : Type 0} {f : Wire → Got A} (g : A → Wire → Got B) {p p₁ p₂ : Peer H} (x : A) {r : Result B LineFault}
      → Does log world f p (Ok x) p₁ → Does log world (g x) p₁ r p₂ → Does log world (λ v. then (f v) g) p r p₂
  does_then g x s t = record { lent = same_then s.lent t.lent; talks = λ status. talk_then g x (s.talks status) (later s.lent t status) }

  pub does_stop : {A B : Type 0} {f : Wire → Got A} (g : A → Wire → Got B) {p p₁ : Peer H} (e : LineFault) (r : Result B LineFault)
      → Does log world f p (Err e) p₁ → r ≡ Err e → Does log world (λ v. then (f v) g) p r p₁
  does_stop g e r s is = record { lent = s.lent; talks = λ status. talk_is is (talk_stop g e (s.talks status)) }

module _ {H : Type 0} {log : H → Log} {world : H → World} where
  -- an answer known by an equation
  pub does_is : {A : Type 0} {f : Wire → Got A} {p p₁ : Peer H} {r r' : Result A LineFault} → r' ≡ r → Does log world f p r p₁ → Does log world f p r' p₁
  does_is e s = record { lent = s.lent; talks = λ status. talk_is e (s.talks status) }

  -- nothing is said
  pub does_got : {A : Type 0} (x : A) (p : Peer H) → Does log world (λ v. got x v) p (Ok x) p
  does_got x p = record { lent = same_peer p; talks = λ status. talk_none (Ok x) _ _ _ }

-- what is left to do leads to the whole
pub record OnTheWay {H A : Type 0} (log : H → Log) (world : H → World) (g : Wire → Got A) (p : Peer H) (f : Wire → Got A) (p₀ : Peer H) : Type 0 where
  pub lent : SameLent p₀ p
  pub leads : LeadsWork g (seen log world p) p₀.process p.work.now f (seen log world p₀) p₀.work.now

module _ {H : Type 0} {log : H → Log} {world : H → World} where
  pub begun : {left whole : List Pkt} {p : Peer H} → left ≡ whole → OnTheWay log world (send_all left) p (send_all whole) p
  begun {left} {p = p} is =
      record { lent = same_peer p; leads = subst (λ ps. LeadsWork (send_all left) (seen log world p) p.process p.work.now (send_all ps) (seen log world p) p.work.now) is (λ status. leads_here _ _ _ _) }

  -- however what is left goes, so goes the whole
  pub arrived : {A : Type 0} {g f : Wire → Got A} {p p₀ p₁ : Peer H} {r : Result A LineFault} → OnTheWay log world g p f p₀ → Does log world g p r p₁ → Does log world f p₀ r p₁
  arrived {r = r} on t = record { lent = same_then on.lent t.lent; talks = λ status. on.leads status r _ _ (later on.lent t status) }

  module _ {f : Wire → Got (Unit {0})} {p₀ p : Peer H} {left : List Pkt} (on : OnTheWay log world (send_all left) p f p₀) where
    pub sent_more : {x : Pkt} {xs : List Pkt} → left ≡ x ∷ xs → {p₁ : Peer H} {u : Unit {0}} → Does log world (send x) p (Ok u) p₁ → OnTheWay log world (send_all xs) p₁ f p₀
    sent_more next {u = u} s =
        record { lent = same_then on.lent s.lent; leads = packet_more _ _ _ _ _ _ next on.leads _ _ u (later on.lent s) }

    pub sent_stop : {x : Pkt} {xs : List Pkt} → left ≡ x ∷ xs → {p₁ : Peer H} (e : LineFault) (r : Result (Unit {0}) LineFault) → Does log world (send x) p (Err e) p₁ → r ≡ Err e
        → Does log world f p₀ r p₁
    sent_stop next e r s is =
        record { lent = same_then on.lent s.lent; talks = packet_stop _ _ _ _ _ _ next on.leads _ _ e r (later on.lent s) is }

    pub sent_all : left ≡ [] → Does log world f p₀ (Ok tt) p
    sent_all none = record { lent = on.lent; talks = packets_end _ _ _ _ _ _ none on.leads }
