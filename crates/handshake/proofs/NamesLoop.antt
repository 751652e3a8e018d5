-- The loop that reads names.
use Rattle.std.proofs.Common.{◌≡◌, ℕ, List, take, Some, None, Ok, Err, Option, Result, sym, refl, ap, ◌∙◌, subst}
use Rattle.slices.specs.declared.name.Name.{Name}
use Rattle.host.specs.declared.fault.LineFault.{LineFault}
use Rattle.host.specs.declared.peer.Peer.{Peer}
use Rattle.host.specs.Worlds.{World}
use Rattle.host.specs.Acts.{Log}
use Rattle.host.specs.Talk.{read_text, shown_part}
use Rattle.host.specs.Peers.{Does}
use Rattle.host.proofs.Peering.{does_is}
use Rattle.handshake.specs.declared.protocol.Protocol.{Protocol}
use Rattle.handshake.specs.declared.protocol.Refusal.{Refusal}
use Rattle.handshake.specs.declared.protocol.Refusal.TheVariants.{Line, Protocol as Wrong}
use Rattle.handshake.specs.Judged.{heard}
use Rattle.handshake.specs.Handshakes.{protocol_number, with_line, names_turn, names_step, read_names}
use Rattle.process.proofs.Reading.{text_at, LeftLines, given_does, lines_first, lines_fault, lines_stop, lines_more}

-- of the bytes given so far nothing is known
abbrev Nothing : List ℕ → ℕ → Type 0
Nothing given m = Unit {0}

-- what is left to read, with peer p, of the names that were read from p₀ on
abbrev pub LeftNames : {H : Type 0} → (H → Log) → (H → World) → List Name → ℕ → Peer H → Peer H → Type 0
LeftNames log world names m p p₀ = LeftLines log world (names_step names) Nothing (read_names names) m p p₀

module _ {H : Type 0} {log : H → Log} {world : H → World} (names : List Name) where
  pub names_first : (m : ℕ) → m ≡ 0 → (p : Peer H) → LeftNames log world names m p p
  names_first m e p = subst (λ n. LeftNames log world names n p p) (sym e) (lines_first (names_step names) Nothing 0 tt p)

  module _ {m : ℕ} {p p₀ p₁ : Peer H} (on : LeftNames log world names m p p₀) where
    pub names_fault : {X : Type 0} (f : X → ℕ) (e : LineFault) (r : Result X (Refusal Protocol)) → Does log world read_text p (Err e) p₁ → r ≡ Err (Line e)
        → Does log world (read_names names) p₀ (heard protocol_number f r) p₁
    names_fault f e r s is = does_is (ap (heard protocol_number f) is) (given_does (lines_fault (names_step names) Nothing on (λ _. Unit {0}) e s (λ _ _ _ _. tt)))

    module _ (o : Option ℕ) (s : Does log world read_text p (shown_part p₁.work.now (Ok o)) p₁) where
      pub names_end : o ≡ None → Does log world (read_names names) p₀ (Ok (Ok m)) p₁
      names_end e = given_does (lines_stop (names_step names) Nothing on o s None (ap (text_at p₁.work.now) (sym e)) (λ _. Unit {0}) (Ok m) refl (λ _ _ _ _. tt))

      module _ (n : ℕ) (some : o ≡ Some n) (line : List ℕ) (front : line ≡ take n p₁.work.now) where
        here : Some line ≡ text_at p₁.work.now o
        here = ap (λ l. Some l) front ∙ ap (text_at p₁.work.now) (sym some)

        pub names_wrong : {X : Type 0} (f : X → ℕ) (q : Protocol) (r : Result X (Refusal Protocol)) → Err (protocol_number q) ≡ with_line names m line → r ≡ Err (Wrong q)
            → Does log world (read_names names) p₀ (heard protocol_number f r) p₁
        names_wrong f q r is e =
            does_is (ap (heard protocol_number f) e)
            (given_does (lines_stop (names_step names) Nothing on o s (Some line) here (λ _. Unit {0}) (Err (protocol_number q)) (ap names_turn (sym is)) (λ _ _ _ _. tt)))

        pub names_more : (m' : ℕ) → Ok m' ≡ with_line names m line → LeftNames log world names m' p₁ p₀
        names_more m' is = lines_more (names_step names) Nothing on o s (Some line) here m' (ap names_turn (sym is)) (λ _ _ _ _. tt)
