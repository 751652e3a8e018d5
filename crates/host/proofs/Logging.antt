-- Logs that grow by one act after another.
use Rattle.std.proofs.Common.{◌≡◌, ℕ, List, [], ◌∷◌, ◌++◌, Ok, Err, sym, refl, ap, ◌∙◌, subst}
use Rattle.std.proofs.lemmas.List.{append_assoc, append-nil}
use Rattle.host.specs.declared.fault.Fault.{Fault}
use Rattle.host.specs.Acts.{Act, taking, Log, Grows}
use Rattle.host.specs.Fills.{Joined, Brought}

pub grows_none : (g : Log) → Grows g [] g
grows_none g l e = (l, e, refl)

pub grows_then : (g₀ g₁ g₂ : Log) (xs ys : List Act) → Grows g₀ xs g₁ → Grows g₁ ys g₂ → Grows g₀ (ys ++ xs) g₂
grows_then g₀ g₁ g₂ xs ys f g l e =
    let q = g l e in
    let p = f q.0 q.1 in
    (p.0, p.1, q.2 ∙ ap (λ m. ys ++ m) p.2 ∙ sym (append_assoc ys xs p.0))

joined_append : (p : ℕ) (ys xs : List Act) (b c : List ℕ) → Joined p xs b → Joined p ys c → Joined p (ys ++ xs) (b ++ c)
joined_append p [] xs b c h k = subst (Joined p xs) (sym (append-nil b) ∙ ap (λ m. b ++ m) (sym k)) h
joined_append p (y ∷ ys) xs b c h k =
    (b ++ k.0, (k.1.0, ap (λ m. b ++ m) k.1.1 ∙ sym (append_assoc b k.0 k.1.0), k.1.2, joined_append p ys xs b k.0 h k.1.3))

module _ (p : ℕ) where
  pub brought_none : (g : Log) → Brought p g [] g
  brought_none g = record { acts = []; joined = refl; grows = grows_none g }

  pub brought_then : {g₀ g₁ g₂ : Log} {b c : List ℕ} → Brought p g₀ b g₁ → Brought p g₁ c g₂ → Brought p g₀ (b ++ c) g₂
  brought_then {g₀} {g₁} {g₂} {b} {c} s t =
      record { acts = t.acts ++ s.acts; joined = joined_append p t.acts s.acts b c s.joined t.joined; grows = grows_then g₀ g₁ g₂ s.acts t.acts s.grows t.grows }

  pub brought_is : {g₀ g₁ : Log} {b c : List ℕ} → b ≡ c → Brought p g₀ b g₁ → Brought p g₀ c g₁
  brought_is {g₀} {g₁} e s = subst (λ x. Brought p g₀ x g₁) e s

  pub brought_some : {g₀ g₁ : Log} (b : List ℕ) → Grows g₀ (taking p (Ok b) ∷ []) g₁ → Brought p g₀ b g₁
  brought_some b h = record { acts = taking p (Ok b) ∷ []; joined = ([], (b, refl, (refl, refl), refl)); grows = h }

  pub brought_refused : {g₀ g₁ : Log} (f : Fault) → Grows g₀ (taking p (Err f) ∷ []) g₁ → Brought p g₀ [] g₁
  brought_refused f h = record { acts = taking p (Err f) ∷ []; joined = ([], ([], refl, (refl, refl), refl)); grows = h }
