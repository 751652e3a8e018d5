-- Rows that are pushed one behind the other.
use Rattle.std.proofs.Common.{◌≡◌, ℕ, ◌+◌, ◌<◌, ◌≤◌, ltb, List, [], ◌∷◌, ◌++◌, length, get_or, drop, set, Some, None, Ok, Err, Result, sym, refl, ap, ◌∙◌, ⊎_elim, arith}
use Rattle.std.proofs.lemmas.List.{append_assoc, length_push, drop_more, set_at}
use Rattle.std.proofs.lemmas.Bool.{cases_lt, lt-ltb, le-ltb, cond-true, cond-false}
use Rattle.std.specs.Result.{result_ok}
use Rattle.slices.specs.declared.rows.Full.{Full}
use Rattle.slices.specs.Answers.{told}
use Rattle.slices.specs.Held.{handed_back, pushed, IsPush, rows_over}

-- one row more behind those that are laid
pub rows_over_set : {X : Type 0} (new rows : List X) (row : X) → length new < length rows → set (rows_over new rows) (length new) row ≡ rows_over (new ++ row ∷ []) rows
rows_over_set new rows row h =
    ap (λ l. set (new ++ l) (length new) row) (drop_more rows (length new) row h)
    ∙ set_at new (get_or rows (length new) row) (drop (length new + 1) rows) row (length new) refl
    ∙ sym (append_assoc new (row ∷ []) (drop (length new + 1) rows))
    ∙ ap (λ n. (new ++ row ∷ []) ++ drop n rows) (sym (length_push new row))

-- one that is taken
pub took :
    {X : Type 0} (rows rows' : List X) (count count' : ℕ) (row : X) (r : Result (Unit {0}) (Full X)) (u : Unit {0})
    → (told (λ u. u) handed_back r, rows', count') ≡ pushed rows count row → result_ok r ≡ Some u → (count < length rows) × (rows' ≡ set rows count row) × (count' ≡ count + 1)
took rows rows' count count' row (Err f) u h ok = let z : ◌≡◌ {A = ℕ} 0 1 = cc in absurd (omega arith)
took rows rows' count count' row (Ok v) u h ok =
    ⊎_elim
    (λ (l : count < length rows).
    let e = h ∙ cond-true (ltb count (length rows)) (Ok tt, set rows count row, count + 1) (Err (7, row), rows, count) (lt-ltb count (length rows) l) in
    (l, ap (λ t. t.1) e, ap (λ t. t.2) e))
    (λ (l : length rows ≤ count).
    let e = h ∙ cond-false (ltb count (length rows)) (Ok tt, set rows count row, count + 1) (Err (7, row), rows, count) (le-ltb count (length rows) l) in
    let apart = ap (λ t. t.0) e in
    let z : ◌≡◌ {A = ℕ} 0 1 = cc in
    absurd (omega arith))
    (cases_lt count (length rows))

-- one that is refused
pub refused :
    {X : Type 0} (rows rows' : List X) (count count' : ℕ) (row : X) (r : Result (Unit {0}) (Full X))
    → IsPush rows count row (told (λ u. u) handed_back r) rows' count' → result_ok r ≡ None → (length rows ≤ count) × (rows' ≡ rows) × (count' ≡ count)
refused rows rows' count count' row (Ok u) h ok = let z : ◌≡◌ {A = ℕ} 0 1 = cc in absurd (omega arith)
refused rows rows' count count' row (Err g) h ok = (omega arith, h.2, h.3)
