-- What stands first in a byte string, case by case.
use Rattle.std.proofs.Common.{◌≡◌, ℕ, ◌+◌, ◌<◌, ◌≤◌, leb, List, length, get_or, take, drop, Ok, Err, Result, sym, ap, ◌∙◌, arith}
use Rattle.std.proofs.lemmas.List.{get_or-take}
use Rattle.std.proofs.lemmas.Bool.{le-leb, lt-leb, cond-true, cond-false}
use Rattle.packetline.specs.declared.packet.Packet.{Packet}
use Rattle.packetline.specs.Packets.{Pkt, header, payload_length, with_payload, whole, bad, short, fronted, front}

-- a header is judged by the first four bytes
pub header_four : (bytes : List ℕ) → header (take 4 bytes) ≡ header bytes
header_four bytes =
    let at : (i : ℕ) → i < 4 → get_or (take 4 bytes) i 0 ≡ get_or bytes i 0 = λ i h. get_or-take 4 bytes i 0 h in
    rw (at 0 (omega arith), at 1 (omega arith), at 2 (omega arith), at 3 (omega arith))

module _ (bytes : List ℕ) where
  pub front_none : length bytes < 4 → front bytes ≡ short
  unfolding front
  front_none h = cond-false (leb 4 (length bytes)) _ _ (lt-leb 4 (length bytes) h)

  pub front_some : 4 ≤ length bytes → front bytes ≡ fronted (header bytes) bytes
  unfolding front
  front_some h = cond-true (leb 4 (length bytes)) _ _ (le-leb 4 (length bytes) h)

  pub front_bad : (n : ℕ) → 4 ≤ length bytes → header bytes ≡ Err n → front bytes ≡ bad (take 4 bytes) (drop 4 bytes)
  front_bad n h e = front_some h ∙ ap (λ r. fronted r bytes) e

  pub front_cut : (k : Packet ℕ) → 4 ≤ length bytes → header bytes ≡ Ok k → length bytes < 4 + payload_length k → front bytes ≡ short
  front_cut k h e l = front_some h ∙ ap (λ r. fronted r bytes) e ∙ cond-false (leb (4 + payload_length k) (length bytes)) _ _ (lt-leb _ _ l)

  pub front_whole : (k : Packet ℕ) → header bytes ≡ Ok k → 4 + payload_length k ≤ length bytes
      → front bytes ≡ whole (with_payload k (drop 4 bytes)) (take (4 + payload_length k) bytes) (drop (4 + payload_length k) bytes)
  front_whole k e l =
      front_some (omega arith) ∙ ap (λ r. fronted r bytes) e ∙ cond-true (leb (4 + payload_length k) (length bytes)) _ _ (le-leb _ _ l)

  -- what the front is, where four bytes at it were read as a header
  module _ (four rest : List ℕ) (parts : (four ≡ take 4 bytes) × (rest ≡ drop 4 bytes) × (length rest + 4 ≡ length bytes)) where
    four_header : {r : Result (Packet ℕ) ℕ} → r ≡ header four → header bytes ≡ r
    four_header e = sym (e ∙ ap header parts.0 ∙ header_four bytes)

    pub read_bad : (n : ℕ) → Err n ≡ header four → fronted (Err n) bytes ≡ front bytes
    read_bad n e = sym (front_bad n (omega (arith, parts.2)) (four_header e))

    pub read_cut : (k : Packet ℕ) → Ok k ≡ header four → length bytes < 4 + payload_length k → short ≡ front bytes
    read_cut k e l = sym (front_cut k (omega (arith, parts.2)) (four_header e) l)

    pub read_whole : (k : Packet ℕ) (n : ℕ) (p : Pkt) → Ok k ≡ header four → n ≡ 4 + payload_length k → n ≤ length bytes → p ≡ with_payload k rest
        → whole p (take n bytes) (drop n bytes) ≡ front bytes
    read_whole k n p e is l q =
        let f = front_whole k (four_header e) (omega arith) in
        let r : p ≡ with_payload k (drop 4 bytes) = q ∙ ap (with_payload k) parts.1 in
        cc
