-- Talks one after another.
use Rattle.std.proofs.Common.{◌≡◌, ℕ, List, [], ◌∷◌, ◌++◌, Ok, Err, Result, sym, refl, ap, ◌∙◌, subst}
use Rattle.std.proofs.lemmas.List.{append_assoc}
use Rattle.host.specs.declared.fault.LineFault.{LineFault}
use Rattle.host.specs.Worlds.{process, with_process}
use Rattle.host.specs.Acts.{Act}
use Rattle.host.specs.Talk.{Event, took, refused, gave, noted, Areas, areas, lay_one, lay, Wire, wire, Got, got, then, ends, Sight, Acted, Talks}
use Rattle.host.proofs.Logging.{grows_none, grows_then}
use Rattle.host.proofs.Takes.{with_same, with_with}

pub lay_append : (xs ys : List Event) (a : Areas) → lay (xs ++ ys) a ≡ lay xs (lay ys a)
lay_append [] ys a = refl
lay_append (x ∷ xs) ys a = ap (lay_one x) (lay_append xs ys a)

pub acted_append : (p : ℕ) (xs ys : List Event) (m n : List Act) → Acted p xs m → Acted p ys n → Acted p (xs ++ ys) (m ++ n)
acted_append p [] ys m n h k = subst (Acted p ys) (ap (λ l. l ++ n) (sym h)) k
acted_append p (took b ∷ xs) ys m n h k = (h.0 ++ n, ap (λ l. l ++ n) h.1, acted_append p xs ys h.0 n h.2 k)
acted_append p (refused b ∷ xs) ys m n h k = (h.0, (h.1.0 ++ n, ap (λ l. l ++ n) h.1.1, acted_append p xs ys h.1.0 n h.1.2 k))
acted_append p (gave b ∷ xs) ys m n h k =
    (h.0, (h.1.0 ++ n, ap (λ l. l ++ n) h.1.1 ∙ append_assoc h.0 h.1.0 n, h.1.2, acted_append p xs ys h.1.0 n h.1.3 k))
acted_append p (noted b ∷ xs) ys m n h k = acted_append p xs ys m n h k

-- a talk in which nothing passes
pub talk_none : {A : Type 0} (r : Result A LineFault) (w : Sight) (p : ℕ) (a : Areas) → Talks (λ v. ends r v) w p a r w a
talk_none r w p a = record { events = []; goes = λ rest. (rest, λ past. refl); others = sym (with_same w.world p); laid = refl; acts = []; acted = refl; grows = grows_none w.log }

-- a talk of which something else is made, where nothing more is said: a fault may be caught so
abbrev pub talk_made : {A B : Type 0} {f : Wire → Got A} (c : Got A → Got B) {w : Sight} {p : ℕ} {a : Areas} {w₁ : Sight} {a₁ : Areas} (r : Result A LineFault) (r' : Result B LineFault)
    → ((v : Wire) → c (ends r v) ≡ ends r' v) → Talks f w p a r w₁ a₁ → Talks (λ v. c (f v)) w p a r' w₁ a₁
talk_made c {w₁ = w₁} r r' is s =
    record {
      events = s.events;
      goes = λ rest. let l1 = s.goes rest in (l1.0, λ past. ap c (l1.1 past) ∙ is _);
      others = s.others;
      laid = s.laid;
      acts = s.acts;
      acted = s.acted;
      grows = s.grows;
    }

module _ {A B : Type 0} {f : Wire → Got A} (g : A → Wire → Got B) {w : Sight} {p : ℕ} {a : Areas} {w₁ : Sight} {a₁ : Areas} where
  unfoldable pub talk_then : (x : A) {r : Result B LineFault} {w₂ : Sight} {a₂ : Areas} → Talks f w p a (Ok x) w₁ a₁ → Talks (g x) w₁ p a₁ r w₂ a₂
      → Talks (λ v. then (f v) g) w p a r w₂ a₂
  talk_then x {r} {w₂} {a₂} s t =
      record {
        events = t.events ++ s.events;
        goes = λ rest.
            let l2 = t.goes rest in
            let l1 = s.goes l2.0 in (
              l1.0,
              λ past. ap (λ y. then y g) (l1.1 past) ∙ l2.1 (s.events ++ past) ∙ ap (λ es. ends r (wire (process w₂.world p) rest es)) (sym (append_assoc t.events s.events past)),
            );
        others = t.others ∙ ap (λ v. with_process v p (process w₂.world p)) s.others ∙ with_with w.world p (process w₁.world p) (process w₂.world p);
        laid = t.laid ∙ ap (lay t.events) s.laid ∙ sym (lay_append t.events s.events a);
        acts = t.acts ++ s.acts;
        acted = acted_append p t.events s.events t.acts s.acts t.acted s.acted;
        grows = grows_then w.log w₁.log w₂.log s.acts t.acts s.grows t.grows;
      }

  unfoldable pub talk_stop : (e : LineFault) → Talks f w p a (Err e) w₁ a₁ → Talks (λ v. then (f v) g) w p a (Err e) w₁ a₁
  talk_stop e s = talk_made (λ y. then y g) (Err e) (Err e) (λ v. refl) s

-- an answer known by an equation
pub talk_is : {A : Type 0} {f : Wire → Got A} {w : Sight} {p : ℕ} {a : Areas} {w' : Sight} {a' : Areas} {r r' : Result A LineFault} → r' ≡ r → Talks f w p a r w' a' → Talks f w p a r' w' a'
talk_is {f = f} {w = w} {p = p} {a = a} {w' = w'} {a' = a'} e t = subst (λ x. Talks f w p a x w' a') (sym e) t

-- What is left to do leads to the whole: however g goes on from here, so went f from the start.
abbrev pub Leads : {A : Type 0} → (Wire → Got A) → Sight → ℕ → Areas → (Wire → Got A) → Sight → Areas → Type 0
Leads {A} g w p a f w₀ a₀ = (r : Result A LineFault) (w' : Sight) (a' : Areas) → Talks g w p a r w' a' → Talks f w₀ p a₀ r w' a'

-- the same where no status area is lent
abbrev pub LeadsWork : {A : Type 0} → (Wire → Got A) → Sight → ℕ → List ℕ → (Wire → Got A) → Sight → List ℕ → Type 0
LeadsWork g w p work f w₀ work₀ = (status : List ℕ) → Leads g w p (areas work status) f w₀ (areas work₀ status)

pub leads_here : {A : Type 0} (f : Wire → Got A) (w : Sight) (p : ℕ) (a : Areas) → Leads f w p a f w a
leads_here f w p a r w' a' t = t

module _ {A B : Type 0} {h : Wire → Got A} (k : A → Wire → Got B) {w : Sight} {p : ℕ} {a : Areas} {f : Wire → Got B} {w₀ : Sight} {a₀ : Areas} {w₁ : Sight} {a₁ : Areas}
    (on : Leads (λ v. then (h v) k) w p a f w₀ a₀) where
  pub leads_more : (x : A) → Talks h w p a (Ok x) w₁ a₁ → Leads (k x) w₁ p a₁ f w₀ a₀
  leads_more x s r w' a' t = on r w' a' (talk_then k x s t)

  pub leads_stop : (e : LineFault) → Talks h w p a (Err e) w₁ a₁ → Talks f w₀ p a₀ (Err e) w₁ a₁
  leads_stop e s = on (Err e) _ _ (talk_stop k e s)

pub leads_end : {A : Type 0} (x : A) {w : Sight} {p : ℕ} {a : Areas} {f : Wire → Got A} {w₀ : Sight} {a₀ : Areas} → Leads (λ v. got x v) w p a f w₀ a₀ → Talks f w₀ p a₀ (Ok x) w a
leads_end x {w} {p} {a} on = on (Ok x) w a (talk_none (Ok x) w p a)
