-- The script host keeps the host's meaning.
use Rattle.std.proofs.Common.{◌≡◌, ℕ, zero, suc, ◌+◌, ◌-◌, ◌<◌, ◌≤◌, min, Bool, true, false, cond, not, ltb, subst, List, [], ◌∷◌, ◌++◌, map, length, get_or, take, set, replicate, is_some, Some, None, Ok, Err, Option, Result, sym, refl, ap, ◌∙◌, ⊎_elim, arith}
use mathlib.Core.Path.{fun_ext}
use Rattle.std.proofs.lemmas.List.{get_or-take, get_or-set_same, map-set, map_push, length-map, length-take, take_more_set}
use Rattle.std.proofs.Math.ListN.{get_or-map}
use Rattle.std.proofs.lemmas.Bool.{cases_lt, cond-true, and_from, le-leb, lt-ltb, false≢true}
use Rattle.std.specs.List.{list_all, slice_get, position_or_len}
use Rattle.std.proofs.lemmas.Bool.Decides.{nat_tests}
use Rattle.std.proofs.lemmas.Option.{slice_get_past, slice_get_read}
use Rattle.std.specs.Slice.{IsItemAt}
use Rattle.std.specs.Option.{option_copied}
use Rattle.std.specs.Borrow.{Bor}
use Rattle.std.specs.Fn.{Called}
use Rattle.std.specs.Array.{IsFromFnResultFrom}
use denote.Param.Members.{Mut}
use Rattle.slices.proofs.Searches.{first_is}
use Rattle.slices.specs.First.{first_from}
use Rattle.scripts.specs.declared.script.Row.{Row}
use Rattle.host.specs.Worlds.{live, World, process, with_process}
use Rattle.host.specs.Acts.{Started}
use Rattle.scripts.specs.Rows.{row_within, is_script, opening, row_of, place_of, first_of, pipe, played}
use Rattle.scripts.specs.Scripts.{script_world}

take_set_any : {X : Type 0} (n : ℕ) (xs : List X) (i : ℕ) (x : X) → take n (set xs i x) ≡ set (take n xs) i x
take_set_any zero xs i x = refl
take_set_any (suc n) [] i x = refl
take_set_any (suc n) (y ∷ ys) zero x = refl
take_set_any (suc n) (y ∷ ys) (suc i) x = ap (λ l. y ∷ l) (take_set_any n ys i x)

-- rows in places of their own
pub placed_is : (rows : List Row) (n : ℕ) (places : List (Option Row)) → length rows ≤ n → length places ≡ n
    → ((i : ℕ) → i < n → get_or places i None ≡ slice_get rows i) → places ≡ map Some rows ++ replicate (n - length rows) None
placed_is [] zero [] h l each = refl
placed_is [] (suc n) (p ∷ ps) h l each =
    let first : p ≡ None = each 0 (omega arith) in
    let rest = placed_is [] n ps (omega arith) (omega arith) (λ i k. each (suc i) (omega arith)) in
    ap (λ o. o ∷ ps) first ∙ ap (λ os. None ∷ os) (rest ∙ ap (λ m. replicate m None) {y = n} (omega arith)) ∙ ap (λ m. replicate m None) {x = suc n} (omega arith)
placed_is (row ∷ rows) (suc n) (p ∷ ps) h l each =
    let first : p ≡ Some row = each 0 (omega arith) in
    let rest = placed_is rows n ps (omega arith) (omega arith) (λ i k. each (suc i) (omega arith)) in
    ap (λ o. o ∷ ps) first ∙ ap (λ os. Some row ∷ os) (rest ∙ ap (λ m. map Some rows ++ replicate m None) (omega arith))
placed_is rows n [] h l each = absurd (omega arith)
placed_is rows zero (p ∷ ps) h l each = absurd (omega arith)

-- what `get` answers
pub got : {X : Type 0} (xs : List X) (i : ℕ) (r : Option (Bor X)) → IsItemAt xs i r → option_copied r ≡ slice_get xs i
got xs i None h = sym (slice_get_past xs i h.3)
got xs i (Some x) h = sym (slice_get_read xs (length xs) i x.now refl h.3.0 h.1)

-- what `from_fn` gives by a closure that answers v i at i and stays as it is
pub from_each : {F B : Type 0} (g : Mut F (ℕ × Unit {0}) B) (v : ℕ → B) (f : F) → ((i : ℕ) (y : B) (q : F) → Called g f (i, tt) y q → (q ≡ f) × (y ≡ v i))
    → (p : F) (ys : List B) (i n : ℕ) → p ≡ f → IsFromFnResultFrom g p ys i n → (k : ℕ) (d : B) → i ≤ k → k < i + n → get_or ys k d ≡ v k
from_each g v f only p ys i zero e h k d a b = absurd (omega arith)
from_each g v f only p ys i (suc n) e h k d a b =
    let o = only i h.1 h.0 (subst (λ x. Called g x (i, tt) h.1 h.0) e h.3) in
    ⊎_elim (λ l. from_each g v f only h.0 ys (i + 1) n o.0 h.4 k d (omega arith) (omega arith))
    (λ l. let z : k ≡ i = omega arith in ap (λ j. get_or ys j d) z ∙ h.2.1 d ∙ o.1 ∙ ap v (sym z)) (cases_lt i k)

-- what `position` answers
turn : (b : Bool) (i n m : ℕ) (r : Option ℕ) → cond (ltb n m) (Some (i + 1 + n)) None ≡ r
    → cond (ltb (cond (not b) (1 + n) 0) (suc m)) (Some (i + cond (not b) (1 + n) 0)) None ≡ cond b (Some i) r
turn true i n m r e = grind (arith, nat_tests)
turn false i n m r e = grind (arith, nat_tests)

first_position : {X : Type 0} (p : X → Bool) (i : ℕ) (xs : List X)
    → cond (ltb (position_or_len p xs) (length xs)) (Some (i + position_or_len p xs)) None ≡ first_from p i xs
first_position p i [] = refl
first_position p i (x ∷ xs) = turn (p x) i (position_or_len p xs) (length xs) (first_from p (i + 1) xs) (first_position p (i + 1) xs)

pub position_is : {X : Type 0} (p : X → Bool) (xs : List X) → cond (ltb (position_or_len p xs) (length xs)) (Some (position_or_len p xs)) None ≡ first_from p 0 xs
position_is p xs = ap (λ n. cond (ltb (position_or_len p xs) (length xs)) (Some n) None) {y = 0 + position_or_len p xs} (omega arith) ∙ first_position p 0 xs

-- the first of them, with or without their places

none_in_places : (bytes command : List ℕ) (i n : ℕ) → is_some (first_from (place_of bytes command) i (replicate n None)) ≡ false
none_in_places bytes command i zero = refl
none_in_places bytes command i (suc n) = none_in_places bytes command (i + 1) n

first_in_places : (bytes command : List ℕ) (i n : ℕ) (rows : List Row)
    → is_some (first_from (place_of bytes command) i (map Some rows ++ replicate n None)) ≡ is_some (first_from (row_of bytes command) i rows)
first_in_places bytes command i n [] = none_in_places bytes command i n
first_in_places bytes command i n (row ∷ rows) =
    elim (row_of bytes command row) as (λ b. is_some (cond b (Some i) (first_from (place_of bytes command) (i + 1) (map Some rows ++ replicate n None))) ≡ is_some (cond b (Some i) (first_from (row_of bytes command) (i + 1) rows)))
    [ true ↦ refl | false ↦ first_in_places bytes command (i + 1) n rows ]

-- a new script
pub made : (bytes : List ℕ) (rows : List Row) (n : ℕ) (places : List (Option Row)) → places ≡ map Some rows ++ replicate n None
    → length rows ≤ 16 → true ≡ list_all (row_within (length bytes)) rows
    → ◌≡◌ {A = Result World ℕ} (Ok (script_world bytes places [] 0)) (cond (is_script bytes rows) (Ok (opening bytes rows)) (Err 2))
made bytes rows n places e few h =
    let opened : (List ℕ → Bool) → Result World ℕ = λ f. Ok (record { procs = []; startable = f }) in
    ap opened (fun_ext (λ command. ap (λ l. is_some (first_of bytes command l)) e ∙ first_in_places bytes command 0 n rows))
    ∙ sym (cond-true (is_script bytes rows) (Ok (opening bytes rows)) (Err 2) (and_from _ _ (le-leb (length rows) 16 few) (sym h)))

-- the processes

module _ (bytes : List ℕ) (unused started : List (Option Row)) (count : ℕ) where
  pub plays : (p : ℕ) (place : Option Row) → script_world bytes unused (set started p place) count ≡ with_process (script_world bytes unused started count) p (played bytes place)
  plays p place =
      ap (λ ps. record { procs = ps; startable = λ command. is_some (first_of bytes command unused) })
      (ap (map (played bytes)) (take_set_any count started p place) ∙ map-set (played bytes) (take count started) p place)

  -- the first unused row of the command starts
  module _ (command : List ℕ) (all-places : length started ≡ 16) where
    procs_length : length (map (played bytes) (take count started)) ≡ min count 16
    procs_length = length-map (take count started) (played bytes) ∙ length-take count started ∙ ap (min count) all-places

    module _ (i : ℕ) (few : count < 16) (here : i < length unused) (is : Some i ≡ first_of bytes command unused) where
      abbrev place : Option Row
      place = get_or unused i None

      abbrev after : World
      after = script_world bytes (set unused i None) (set started count place) (count + 1)

      row_there : (p : Option Row) → place_of bytes command p ≡ true → (row : Row) × (p ≡ Some row)
      row_there None e = absurd (false≢true e)
      row_there (Some row) e = (row, refl)

      pub there : (row : Row) × (place ≡ Some row)
      there = row_there place ((first_is (place_of bytes command) unused (Some i) is).1 None)

      pub starts : Started 16 (script_world bytes unused started count) command (Ok count) after
      starts = (
        and_from _ _ (ap is_some (sym is)) (lt-ltb (length (map (played bytes) (take count started))) 16 (omega (arith, procs_length))),
        omega (arith, procs_length),
        (
          pipe bytes there.0,
          ap (map (played bytes)) (take_more_set started count place (omega arith)) ∙ map_push (played bytes) (take count started) place
              ∙ ap (λ p. map (played bytes) (take count started) ++ played bytes p ∷ []) there.1,
        ),
      )

      pub newcomer : process after count ≡ live (pipe bytes there.0)
      newcomer =
          get_or-map (played bytes) (take (count + 1) (set started count place)) count None
          ∙ ap (played bytes) (get_or-take (count + 1) (set started count place) count None (omega arith) ∙ get_or-set_same started count place None (omega arith) ∙ there.1)
