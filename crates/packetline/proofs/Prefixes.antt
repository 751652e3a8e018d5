-- What `strip_prefix` answers.
use Rattle.std.proofs.Common.{◌≡◌, ℕ, ◌+◌, true, false, List, length, take, drop, Some, None, Option, sym, ap, ◌∙◌, Bor, MatchOption}
use Rattle.std.specs.Option.{option_map}
use Rattle.std.specs.Str.{bytes_eq}
use Rattle.std.proofs.lemmas.Bool.{cond-true, cond-false}
use Rattle.packetline.specs.Lines.{after_prefix}

-- the part after a prefix, if there is one
pub after_is : (p bs : List ℕ) (r : Option (Bor (List ℕ)))
    → MatchOption r (bytes_eq (take (length p) bs) p ≡ false)
    (λ x. (bytes_eq (take (length p) bs) p ≡ true) × (x.now ≡ drop (length p) bs) × (length x.now + length p ≡ length bs))
    → option_map (λ x. x.now) r ≡ after_prefix p bs
unfolding after_prefix
after_is p bs None h = sym (cond-false (bytes_eq (take (length p) bs) p) _ _ h)
after_is p bs (Some x) h = ap Some h.1 ∙ sym (cond-true (bytes_eq (take (length p) bs) p) _ _ h.0)
