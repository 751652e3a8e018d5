-- The loop that reads the names that are shared.
use Rattle.std.proofs.Common.{◌≡◌, ℕ, List, [], take, Some, None, Ok, Err, Option, Result, sym, refl, ap, ◌∙◌, subst}
use Rattle.slices.specs.declared.name.Name.{Name}
use Rattle.packetline.specs.Lines.{kind_of}
use Rattle.host.specs.declared.fault.LineFault.{LineFault}
use Rattle.host.specs.declared.peer.Peer.{Peer}
use Rattle.host.specs.Worlds.{World}
use Rattle.host.specs.Acts.{Log}
use Rattle.host.specs.Talk.{read_text, shown_part}
use Rattle.host.specs.Peers.{Does}
use Rattle.host.proofs.Peering.{does_is}
use Rattle.handshake.specs.Judged.{capability_in}
use Rattle.handshake.specs.Servers.{with_shared, shared_step, read_shared}
use Rattle.process.proofs.Reading.{text_at, LeftLines, given_does, lines_first, lines_fault, lines_stop, lines_more}

abbrev Nothing : List ℕ → List ℕ → Type 0
Nothing given ks = Unit {0}

-- what is left to read, with peer p, of the names that were read from p₀ on
abbrev pub LeftShared : {H : Type 0} → (H → Log) → (H → World) → List Name → List ℕ → Peer H → Peer H → Type 0
LeftShared log world names ks p p₀ = LeftLines log world (shared_step names) Nothing (read_shared names) ks p p₀

module _ {H : Type 0} {log : H → Log} {world : H → World} (names : List Name) where
  pub shared_first : (ks : List ℕ) → ks ≡ [] → (p : Peer H) → LeftShared log world names ks p p
  shared_first ks e p = subst (λ n. LeftShared log world names n p p) (sym e) (lines_first (shared_step names) Nothing [] tt p)

  module _ {ks : List ℕ} {p p₀ p₁ : Peer H} (on : LeftShared log world names ks p p₀) where
    pub shared_fault : (e : LineFault) (r : Result (List ℕ) LineFault) → Does log world read_text p (Err e) p₁ → r ≡ Err e → Does log world (read_shared names) p₀ r p₁
    shared_fault e r s is = does_is is (given_does (lines_fault (shared_step names) Nothing on (λ _. Unit {0}) e s (λ _ _ _ _. tt)))

    module _ (o : Option ℕ) (s : Does log world read_text p (shown_part p₁.work.now (Ok o)) p₁) where
      pub shared_end : o ≡ None → Does log world (read_shared names) p₀ (Ok ks) p₁
      shared_end e = given_does (lines_stop (shared_step names) Nothing on o s None (ap (text_at p₁.work.now) (sym e)) (λ _. Unit {0}) ks refl (λ _ _ _ _. tt))

      pub shared_more : (n : ℕ) → o ≡ Some n → (line : List ℕ) → line ≡ take n p₁.work.now → (ks' : List ℕ) → ks' ≡ with_shared names ks (capability_in (kind_of line)) → LeftShared log world names ks' p₁ p₀
      shared_more n some line front ks' is =
          let here : Some line ≡ text_at p₁.work.now o = ap (λ l. Some l) front ∙ ap (text_at p₁.work.now) (sym some) in
          subst (λ x. LeftShared log world names x p₁ p₀) (sym is) (lines_more (shared_step names) Nothing on o s (Some line) here _ refl (λ _ _ _ _. tt))
