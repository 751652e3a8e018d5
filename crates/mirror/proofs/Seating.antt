-- The seat at a place, and sends that are one packet.
use Rattle.std.proofs.Common.{◌≡◌, ℕ, zero, suc, ◌<◌, List, [], ◌∷◌, length, get_or, take, drop, Some, None, Ok, Err, Option, Result, sym, refl, ap, ◌∙◌, arith}
use Rattle.std.proofs.lemmas.List.{length-drop}
use Rattle.std.specs.Result.{result_ok}
use Rattle.packetline.specs.declared.decode.Complete.{Complete}
use Rattle.packetline.specs.declared.decode.Error.{Error}
use Rattle.packetline.specs.Reads.{pkt, front_told}
use Rattle.packetline.specs.Packets.{Pkt, whole, front}
use Rattle.mirror.specs.Plans.{only}

-- a place that there is, whatever would stand for one that there is not
pub at_any : {X : Type 0} (xs : List X) (i : ℕ) (x d : X) → i < length xs → get_or xs i x ≡ get_or xs i d
at_any [] i x d h = absurd (omega arith)
at_any (y ∷ ys) zero x d h = refl
at_any (y ∷ ys) (suc i) x d h = at_any ys i x d (omega arith)

-- a packet with bytes behind it
rest_only : (p : Pkt) (taken rest : List ℕ) → 0 < length rest → None ≡ only (whole p taken rest)
rest_only p taken [] h = absurd (omega arith)
rest_only p taken (b ∷ rest) h = refl

whole_is : (r : Result (Option Complete) Error) (bytes : List ℕ) (k : Complete) → result_ok r ≡ Some (Some k) → front_told r bytes ≡ whole (pkt k.line) (take k.bytes_consumed bytes) (drop k.bytes_consumed bytes)
whole_is (Ok (Some x)) bytes k e = let z : x ≡ k = cc in ap (λ y. whole (pkt y.line) (take y.bytes_consumed bytes) (drop y.bytes_consumed bytes)) z
whole_is (Ok None) bytes k e = let z : ◌≡◌ {A = ℕ} 0 1 = cc in absurd (omega arith)
whole_is (Err f) bytes k e = let z : ◌≡◌ {A = ℕ} 0 1 = cc in absurd (omega arith)

pub not_only : (r : Result (Option Complete) Error) (bytes : List ℕ) (k : Complete) → result_ok r ≡ Some (Some k) → front_told r bytes ≡ front bytes → k.bytes_consumed < length bytes → None ≡ only (front bytes)
not_only r bytes k e f h =
    rest_only (pkt k.line) (take k.bytes_consumed bytes) (drop k.bytes_consumed bytes) (let l = length-drop k.bytes_consumed bytes in omega arith) ∙ ap only (sym (whole_is r bytes k e) ∙ f)
