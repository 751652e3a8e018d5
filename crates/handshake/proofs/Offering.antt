-- Versions, held in rows as they are offered.
use Rattle.std.proofs.Common.{◌≡◌, ℕ, ◌+◌, ◌<◌, Bool, true, false, cond, ltb, List, [], ◌∷◌, ◌++◌, length, drop, set, Some, Ok, Err, Option, Result, sym, refl, ap, ◌∙◌, subst, arith}
use Rattle.std.specs.Result.{result_ok}
use Rattle.std.proofs.lemmas.List.{length_push, length-append, length-drop}
use Rattle.std.proofs.lemmas.Bool.{lt-ltb}
use Rattle.slices.specs.Answers.{told}
use Rattle.slices.specs.declared.rows.Full.{Full}
use Rattle.slices.specs.Held.{handed_back, pushed}
use Rattle.packetline.specs.Packets.{over}
use Rattle.slices.proofs.Pushes.{rows_over_set, took}
use Rattle.handshake.specs.Servers.{with_version, Holding, kept_by, KeepsVersion}

module _ (space vs : List ℕ) (n : ℕ) where
  held_on : (rows rows' : List ℕ) (count count' : ℕ) → Holding space vs rows count → count < length rows → rows' ≡ set rows count n → count' ≡ count + 1 → (length vs < length space) × Holding space (vs ++ n ∷ []) rows' count'
  held_on rows rows' count count' (is, many, fits) room put more =
      let long : length rows ≡ length space = ap length is ∙ length-append vs (drop (length vs) space) ∙ (let d = length-drop (length vs) space in omega (arith, d, fits)) in
      let next = length_push vs n in
      (omega (arith, room, many, long), (put ∙ ap (λ l. set l count n) is ∙ ap (λ i. set (over vs space) i n) many ∙ rows_over_set vs space n (omega (arith, room, many, long)), omega (arith, more, many, next), omega (arith, room, many, long, next)))

  by_room : (b : Bool) → b ≡ true → (rows' : List ℕ) (count' : ℕ) → Holding space (vs ++ n ∷ []) rows' count'
      → Holding space (kept_by vs (cond b (Ok (vs ++ n ∷ [])) (Err 7))) rows' count' × (◌≡◌ {A = Result (List ℕ) ℕ} (Ok (kept_by vs (cond b (Ok (vs ++ n ∷ [])) (Err 7)))) (cond b (Ok (vs ++ n ∷ [])) (Err 7)))
  by_room true e rows' count' h = (h, refl)
  by_room false e rows' count' h = let z : ◌≡◌ {A = ℕ} 0 1 = cc in absurd (omega arith)

pub version_kept : (rows rows' : List ℕ) (count count' n : ℕ) (r : Result (Unit {0}) (Full ℕ)) (o : Option ℕ) → o ≡ Some n → (u : Unit {0}) → (told (λ u. u) handed_back r, rows', count') ≡ pushed rows count n
    → result_ok r ≡ Some u → KeepsVersion o rows count (Ok tt) rows' count'
version_kept rows rows' count count' n r o e u p ok space vs h =
    let t = took rows rows' count count' n r u p ok in
    let k = held_on space vs n rows rows' count count' h t.0 t.1 t.2 in
    subst (λ x. Holding space (kept_by vs (with_version (length space) vs x)) rows' count' × (◌≡◌ {A = Result (List ℕ) ℕ} (Ok (kept_by vs (with_version (length space) vs x))) (with_version (length space) vs x))) (sym e)
    (by_room space vs n (ltb (length vs) (length space)) (lt-ltb (length vs) (length space) k.0) rows' count' k.1)
