-- Bytes and their hexadecimal digits, place by place.
use Rattle.std.proofs.Common.{◌≡◌, ℕ, zero, suc, ◌+◌, ◌*◌, ◌/◌, ◌%◌, ◌<◌, List, [], ◌∷◌, ◌++◌, length, get_or, take, drop, None, refl, ap, ◌∙◌, arith}
use Rattle.std.proofs.lemmas.List.{append_assoc, take_more, drop-drop, get_or-take, get_or-drop}
use Rattle.std.specs.Simd.{first_chunks}
use Rattle.packetline.specs.Packets.{hex_char}
use Rattle.recording.specs.Recorded.{hex_of, IsNotHexadecimal, ByteRead}
use Rattle.recording.specs.Shown.{AllBytes}

pub hex_length : (bs : List ℕ) → length (hex_of bs) ≡ 2 * length bs
hex_length [] = refl
hex_length (b ∷ bs) = let e = hex_length bs in omega arith

pub hex_push : (bs : List ℕ) (b : ℕ) → hex_of (bs ++ b ∷ []) ≡ hex_of bs ++ (hex_char (b / 16) ∷ hex_char (b % 16) ∷ [])
hex_push [] b = refl
hex_push (c ∷ bs) b = ap (λ t. hex_char (c / 16) ∷ hex_char (c % 16) ∷ t) (hex_push bs b)

-- the two digits of the byte at i
pub high_at : (bs : List ℕ) (i : ℕ) → i < length bs → get_or (hex_of bs) (2 * i) 0 ≡ hex_char (get_or bs i 0 / 16)
high_at [] i h = absurd (omega arith)
high_at (b ∷ bs) zero h = refl
high_at (b ∷ bs) (suc i) h =
    let e : 2 * suc i ≡ suc (suc (2 * i)) = omega arith in
    ap (λ n. get_or (hex_of (b ∷ bs)) n 0) e ∙ high_at bs i (omega arith)

pub low_at : (bs : List ℕ) (i : ℕ) → i < length bs → get_or (hex_of bs) (2 * i + 1) 0 ≡ hex_char (get_or bs i 0 % 16)
low_at [] i h = absurd (omega arith)
low_at (b ∷ bs) zero h = refl
low_at (b ∷ bs) (suc i) h =
    let e : 2 * suc i + 1 ≡ suc (suc (2 * i + 1)) = omega arith in
    ap (λ n. get_or (hex_of (b ∷ bs)) n 0) e ∙ low_at bs i (omega arith)

-- the pair of digits at i
pub pair_at : (k i : ℕ) (digits d : List ℕ) → i < k → get_or (first_chunks 2 k digits) i d ≡ take 2 (drop (2 * i) digits)
pair_at zero i digits d h = absurd (omega arith)
pair_at (suc k) zero digits d h = refl
pair_at (suc k) (suc i) digits d h =
    let e : 2 + 2 * i ≡ 2 * suc i = omega arith in
    pair_at k i (drop 2 digits) d (omega arith) ∙ ap (take 2) (drop-drop (2 * i) 2 digits ∙ ap (λ n. drop n digits) e)

-- an odd number of digits
pub odd : (digits : List ℕ) → (length digits % 2 ≡ 0 → ⊥) → IsNotHexadecimal digits
odd digits n bs h e = n (omega (arith, hex_length bs, ap length e))

module _ (digits : List ℕ) (pairs : List (List ℕ)) (i : ℕ) (l : i < length digits / 2) (are : pairs ≡ first_chunks 2 (length digits / 2) digits) where
  -- its two digits
  digit_at : (j : ℕ) → j < 2 → get_or (get_or pairs i []) j 0 ≡ get_or digits (2 * i + j) 0
  digit_at j h =
      ap (λ ps. get_or (get_or ps i []) j 0) are ∙ ap (λ p. get_or p j 0) (pair_at (length digits / 2) i digits [] l)
      ∙ get_or-take 2 (drop (2 * i) digits) j 0 h ∙ get_or-drop (2 * i) digits j 0

  first_digit : get_or (get_or pairs i []) 0 0 ≡ get_or digits (2 * i) 0
  first_digit = let z : 2 * i + 0 ≡ 2 * i = omega arith in digit_at 0 (omega arith) ∙ ap (λ n. get_or digits n 0) z

  -- two digits that write no byte
  pub bad_pair : ByteRead (get_or (get_or pairs i []) 0 0) (get_or (get_or pairs i []) 1 0) None → IsNotHexadecimal digits
  bad_pair n bs h e =
      let k : i < length bs = omega (arith, hex_length bs, ap length e) in
      n (get_or bs i 0) (h i) (first_digit ∙ ap (λ ds. get_or ds (2 * i) 0) e ∙ high_at bs i k) (digit_at 1 (omega arith) ∙ ap (λ ds. get_or ds (2 * i + 1) 0) e ∙ low_at bs i k)

  -- one byte more
  pub pair_more : (bs : List ℕ) (b : ℕ) → take (2 * i) digits ≡ hex_of bs → get_or (get_or pairs i []) 0 0 ≡ hex_char (b / 16)
      → get_or (get_or pairs i []) 1 0 ≡ hex_char (b % 16) → take (2 * (i + 1)) digits ≡ hex_of (bs ++ b ∷ [])
  pair_more bs b e p q =
      let n : 2 * (i + 1) ≡ 2 * i + 1 + 1 = omega arith in
      let high = first_digit in
      let low = digit_at 1 (omega arith) in
      let first = take_more digits (2 * i) 0 (omega arith) in
      let second = take_more digits (2 * i + 1) 0 (omega arith) in
      let two = append_assoc (take (2 * i) digits) (get_or digits (2 * i) 0 ∷ []) (get_or digits (2 * i + 1) 0 ∷ []) in
      let more = hex_push bs b in
      cc

pub all_push : (bs : List ℕ) (b : ℕ) → AllBytes bs → b < 256 → AllBytes (bs ++ b ∷ [])
all_push [] b h l zero = l
all_push [] b h l (suc i) = omega arith
all_push (c ∷ bs) b h l zero = h 0
all_push (c ∷ bs) b h l (suc i) = all_push bs b (λ k. h (suc k)) l i
