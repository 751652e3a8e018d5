-- The first of an own list that is offered, in words.
use Rattle.std.proofs.Common.{◌≡◌, ℕ, ◌+◌, Bool, true, false, eqb, cond, ◌||◌, List, [], ◌∷◌, Some, None, Option, Decides, is_some, sym, subst, refl, ap}
use Rattle.std.specs.List.{Contains, list_any}
use Rattle.std.proofs.lemmas.Bool.{both_ways}
use Rattle.std.proofs.lemmas.Bool.Decides.{Decides-eqb, Decides-by_or, Decides-at}
use Rattle.std.proofs.lemmas.List.Elements.{All-nil, All-cons, All-head, All-tail, Decides-contains}
use Rattle.slices.specs.First.{first_from}
use Rattle.choices.specs.Choices.{is_offered, first_offered, IsFirstOffered}

-- a search finds something exactly if some element passes
found : (p : ℕ → Bool) (i : ℕ) (xs : List ℕ) → is_some (first_from p i xs) ≡ list_any p xs
found p i [] = refl
found p i (x ∷ xs) = elim (p x) as (λ b. is_some (cond b (Some i) (first_from p (i + 1) xs)) ≡ (b || list_any p xs)) [ true ↦ refl | false ↦ found p (i + 1) xs ]

module _ (offered : List ℕ) where
  abbrev unoffered : ℕ → Type 0
  unoffered v = ¬ Contains offered v

  offered_decides : (v : ℕ) → Decides (is_offered offered v) (Contains offered v)
  offered_decides v =
      Decides-contains offered v _
      (Decides-at _ (list_any (λ x. eqb x v) offered) (found (λ x. eqb x v) 0 offered)
      (Decides-by_or (λ x. eqb x v) (λ x. x ≡ v) (list_any (λ x. eqb x v)) (λ x. Decides-eqb x v) refl (λ _ _. refl) offered))

  -- one version more at the front of the own list, which is not offered
  later : (x : ℕ) (own : List ℕ) (r : Option ℕ) → ¬ Contains offered x → IsFirstOffered own offered r → IsFirstOffered (x ∷ own) offered r
  later x own None not h = record {
    none = (λ f. All-cons unoffered x own not (h.none.0 f), λ a. h.none.1 (All-tail unoffered x own a));
    among_offered = tt;
    first_own = tt;
  }
  later x own (Some v) not h = record {
    none = (λ f. cc, λ a. h.none.1 (All-tail unoffered x own a));
    among_offered = h.among_offered;
    first_own = (x ∷ h.first_own.0, h.first_own.1, ap (λ l. x ∷ l) h.first_own.2, All-cons unoffered x h.first_own.0 not h.first_own.3);
  }

  first_of : (own : List ℕ) → IsFirstOffered own offered (first_offered own offered)
  first_of [] = record { none = (λ _. All-nil _, λ _. refl); among_offered = tt; first_own = tt }
  first_of (x ∷ own) =
      elim (is_offered offered x) as (λ b. is_offered offered x ≡ b → IsFirstOffered (x ∷ own) offered (cond b (Some x) (first_offered own offered))) [
        | true ↦ λ e. let is = (offered_decides x).0 e in record {
          none = (λ f. cc, λ a. absurd (All-head unoffered x own a is));
          among_offered = is;
          first_own = ([], own, refl, All-nil _);
        }
        | false ↦ λ e. later x own _ (λ is. both_ways _ e ((offered_decides x).1 is)) (first_of own)
      ] refl

  pub first_is : (own : List ℕ) (r : Option ℕ) → r ≡ first_offered own offered → IsFirstOffered own offered r
  first_is own r e = subst (IsFirstOffered own offered) (sym e) (first_of own)
