-- The first paths, up to one that finds no row or no room.
use Rattle.std.proofs.Common.{◌≡◌, ℕ, ◌+◌, ◌-◌, ◌<◌, ◌≤◌, ◌&&◌, leb, ◌⊎◌, List, [], ◌∷◌, ◌++◌, length, sym, refl, ap, ◌∙◌, subst, inl, inr, ⊎_elim, arith}
use Rattle.std.proofs.lemmas.List.{length-append}
use Rattle.std.proofs.lemmas.Bool.{cases_lt, le-leb, lt-leb, and_from, and_left, and_right, cond-true, cond-false}
use Rattle.host.specs.Parts.{joined}
use Rattle.client.specs.Paths.{fitting, FirstOf}

-- the first path fits, and then the others in what is left; or it does not, and none fits
pub fits : (rows room : ℕ) (p : List ℕ) (ps : List (List ℕ)) → 1 ≤ rows → length p ≤ room → fitting rows room (p ∷ ps) ≡ p ∷ fitting (rows - 1) (room - length p) ps
fits rows room p ps r l = cond-true (leb 1 rows && leb (length p) room) (p ∷ fitting (rows - 1) (room - length p) ps) [] (and_from _ _ (le-leb 1 rows r) (le-leb (length p) room l))

pub no_fit : (rows room : ℕ) (p : List ℕ) (ps : List (List ℕ)) → (rows ≡ 0) ⊎ (room < length p) → fitting rows room (p ∷ ps) ≡ []
no_fit rows room p ps why =
    cond-false (leb 1 rows && leb (length p) room) (p ∷ fitting (rows - 1) (room - length p) ps) []
    (⊎_elim (λ (e : rows ≡ 0). and_left _ (leb (length p) room) (lt-leb 1 rows (omega arith))) (λ (l : room < length p). and_right (leb 1 rows) _ (lt-leb (length p) room l)) why)

either : (rows room : ℕ) (p : List ℕ) → ((rows ≡ 0) ⊎ (room < length p)) ⊎ ((1 ≤ rows) × (length p ≤ room))
either rows room p =
    ⊎_elim
    (λ (r : rows < 1). inl (inl (omega arith)))
    (λ (r : 1 ≤ rows). ⊎_elim (λ (l : room < length p). inl (inr l)) (λ (l : length p ≤ room). inr (r, l)) (cases_lt room (length p)))
    (cases_lt rows 1)

-- what fits are the first ones
first_more :
    (p : List ℕ) (ps : List (List ℕ)) (rows room : ℕ) (stored : List (List ℕ)) → 1 ≤ rows → length p ≤ room
    → FirstOf ps (rows - 1) (room - length p) stored → FirstOf (p ∷ ps) rows room (p ∷ stored)
first_more p ps rows room stored r l f =
    record {
      left = f.left;
      are = ap (λ qs. p ∷ qs) f.are;
      rows_for = omega arith;
      room_for = simp length-append (omega arith);
      no_space = λ q qs e. ⊎_elim (λ (h : length stored ≡ rows - 1). inl (omega arith)) (λ (h : room - length p < length (joined stored) + length q). inr (simp length-append (omega arith))) (f.no_space q qs e);
    }

first_none : (p : List ℕ) (ps : List (List ℕ)) (rows room : ℕ) → (rows ≡ 0) ⊎ (room < length p) → FirstOf (p ∷ ps) rows room []
first_none p ps rows room why =
    record {
      left = p ∷ ps;
      are = refl;
      rows_for = omega arith;
      room_for = omega arith;
      no_space = λ q qs e. let same : p ≡ q = cc in ⊎_elim (λ (h : rows ≡ 0). inl (sym h)) (λ (h : room < length p). inr (omega (arith, ap length same))) why;
    }

pub fitting_first : (named : List (List ℕ)) (rows room : ℕ) → FirstOf named rows room (fitting rows room named)
fitting_first [] rows room = record { left = []; are = refl; rows_for = omega arith; room_for = omega arith; no_space = λ p ps e. let z : ◌≡◌ {A = ℕ} 0 1 = cc in absurd (omega arith) }
fitting_first (p ∷ ps) rows room =
    ⊎_elim
    (λ (why : (rows ≡ 0) ⊎ (room < length p)). subst (FirstOf (p ∷ ps) rows room) (sym (no_fit rows room p ps why)) (first_none p ps rows room why))
    (λ (h : (1 ≤ rows) × (length p ≤ room)).
    subst (FirstOf (p ∷ ps) rows room) (sym (fits rows room p ps h.0 h.1))
    (first_more p ps rows room (fitting (rows - 1) (room - length p) ps) h.0 h.1 (fitting_first ps (rows - 1) (room - length p))))
    (either rows room p)

-- where not all fit, no more are stored
pub fitting_stuck : (named more : List (List ℕ)) (rows room : ℕ) → length (fitting rows room named) < length named → fitting rows room (named ++ more) ≡ fitting rows room named
fitting_stuck [] more rows room h = absurd (omega arith)
fitting_stuck (p ∷ ps) more rows room h =
    ⊎_elim
    (λ (why : (rows ≡ 0) ⊎ (room < length p)). no_fit rows room p (ps ++ more) why ∙ sym (no_fit rows room p ps why))
    (λ (w : (1 ≤ rows) × (length p ≤ room)).
    let f = fits rows room p ps w.0 w.1 in
    let less : length (fitting (rows - 1) (room - length p) ps) < length ps = omega (arith, ap length f) in
    fits rows room p (ps ++ more) w.0 w.1 ∙ ap (λ qs. p ∷ qs) (fitting_stuck ps more (rows - 1) (room - length p) less) ∙ sym f)
    (either rows room p)

-- where all fit, more go into what is left
pub fitting_on :
    (named more : List (List ℕ)) (rows room : ℕ) → length named ≤ length (fitting rows room named)
    → fitting rows room (named ++ more) ≡ fitting rows room named ++ fitting (rows - length (fitting rows room named)) (room - length (joined (fitting rows room named))) more
fitting_on [] more rows room h = let r : rows ≡ rows - 0 = omega arith in let t : room ≡ room - 0 = omega arith in cc
fitting_on (p ∷ ps) more rows room h =
    ⊎_elim
    (λ (why : (rows ≡ 0) ⊎ (room < length p)). absurd (omega (arith, ap length (no_fit rows room p ps why))))
    (λ (w : (1 ≤ rows) × (length p ≤ room)).
    let f = fits rows room p ps w.0 w.1 in
    let all : length ps ≤ length (fitting (rows - 1) (room - length p) ps) = omega (arith, ap length f) in
    let on = fitting_on ps more (rows - 1) (room - length p) all in
    let r : rows - 1 - length (fitting (rows - 1) (room - length p) ps) ≡ rows - length (p ∷ fitting (rows - 1) (room - length p) ps) = omega arith in
    let t : room - length p - length (joined (fitting (rows - 1) (room - length p) ps)) ≡ room - length (joined (p ∷ fitting (rows - 1) (room - length p) ps)) =
    simp length-append (omega arith) in
    fits rows room p (ps ++ more) w.0 w.1
    ∙ ap (λ qs. p ∷ qs) on
    ∙ ap (λ n. p ∷ (fitting (rows - 1) (room - length p) ps ++ fitting n (room - length p - length (joined (fitting (rows - 1) (room - length p) ps))) more)) r
    ∙ ap (λ n. p ∷ (fitting (rows - 1) (room - length p) ps ++ fitting (rows - length (p ∷ fitting (rows - 1) (room - length p) ps)) n more)) t
    ∙ sym (ap (λ qs. qs ++ fitting (rows - length qs) (room - length (joined qs)) more) f))
    (either rows room p)
