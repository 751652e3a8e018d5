-- What follows a sign.
use Rattle.std.proofs.Common.{◌≡◌, ℕ, List, [], ◌∷◌, length, drop, ap, arith}
use Rattle.std.proofs.lemmas.List.{nil_from_length}
use Rattle.recording.specs.declared.line.Direction.{Direction}
use Rattle.recording.specs.declared.line.Direction.TheVariants.{Sent, Given}
use Rattle.recording.specs.declared.line.BadLine.TheVariants.{NoBytes}
use Rattle.recording.specs.Recorded.{sign, NoLine}
use Rattle.recording.proofs.Hexadecimal.{hex_length}

-- a sign begins no comment
sign_some : (d : Direction) → sign d ≡ 35 → ⊥
sign_some Sent e = omega arith
sign_some Given e = omega arith

-- a blank that nothing follows
pub no_bytes : (d : Direction) (rest digits : List ℕ) (b : ℕ) → rest ≡ b ∷ digits → b ≡ 32 → length digits ≡ 0 → NoLine NoBytes (sign d ∷ rest)
no_bytes d rest digits b e blank z =
    let only : rest ≡ 32 ∷ [] = let nil = nil_from_length digits z in cc in
    record {
      something = sign_some d;
      no_record = λ o bytes h k q. let n = ap (λ xs. length (drop 2 xs)) q in omega (arith, hex_length bytes, n, ap (λ xs. length (drop 1 xs)) only);
      why = (d, ap (λ xs. sign d ∷ xs) only);
    }
