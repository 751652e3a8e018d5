-- What is read as a packet is exactly what can be sent.
use Rattle.std.proofs.Common.{◌≡◌, ℕ, ◌+◌, ◌<◌, ◌≤◌, Bool, true, false, cond, leb, List, [], ◌∷◌, ◌++◌, map, length, take, drop, Some, None, Ok, Err, Option, Result, sym, refl, ap, ◌∙◌, ⊎_elim, arith, take-append-drop}
use Rattle.std.proofs.lemmas.List.{length-take-le, length-append, length-drop, take-take, drop-take, take_at, drop_at}
use Rattle.std.proofs.lemmas.Bool.{cases_lt, le-leb, leb-true, and_from, and_parts}
use Rattle.std.proofs.lemmas.Bool.Decides.{nat_tests}
use Rattle.packetline.specs.declared.packet.Packet.{Packet}
use Rattle.packetline.specs.declared.packet.Packet.TheVariants.{Flush, Delimiter, ResponseEnd, Data}
use Rattle.packetline.specs.Packets.{number, announced, heading, header, digits, Pkt, flush, delimiter, response_end, line, sendable, packet, payload_length, with_payload, whole, bad, short, fronted, front, lower, lowered, ReadsSent}
use Rattle.packetline.proofs.Digits.{digits_read, digits_spell, digits_lower}
use Rattle.packetline.proofs.Fronts.{front_none, front_some, front_whole}

-- the length that a header gives of a packet
abbrev header_of : Packet ℕ → ℕ
header_of Flush = 0
header_of Delimiter = 1
header_of ResponseEnd = 2
header_of (Data n) = n + 4

abbrev Lawful : Packet ℕ → Type 0
Lawful Flush = Unit {0}
Lawful Delimiter = Unit {0}
Lawful ResponseEnd = Unit {0}
Lawful (Data n) = (1 ≤ n) × (n ≤ 65516)

announced_is : (n : ℕ) (k : Packet ℕ) → announced n ≡ Ok k → (n ≡ header_of k) × Lawful k
announced_is n Flush e = (grind (arith, nat_tests), tt)
announced_is n Delimiter e = (grind (arith, nat_tests), tt)
announced_is n ResponseEnd e = (grind (arith, nat_tests), tt)
announced_is n (Data m) e = (grind (arith, nat_tests), (grind (arith, nat_tests), grind (arith, nat_tests)))

announces : (k : Packet ℕ) → Lawful k → announced (header_of k) ≡ Ok k
announces Flush l = refl
announces Delimiter l = refl
announces ResponseEnd l = refl
announces (Data m) l = grind (arith, nat_tests)

no_number : (n : ℕ) (k : Packet ℕ) → ◌≡◌ {A = Result (Packet ℕ) ℕ} (Err n) (Ok k) → ⊥
no_number n k e = let z : ◌≡◌ {A = ℕ} 0 1 = cc in omega arith

-- a header that is read has a number
abbrev Says : List ℕ → Packet ℕ → Type 0
Says bytes k = (n : ℕ) × (number bytes ≡ Some n) × (announced n ≡ Ok k)

says_in : (bytes : List ℕ) (k : Packet ℕ) (o : Option ℕ) → number bytes ≡ o → heading o ≡ Ok k → Says bytes k
says_in bytes k (Some n) e h = (n, e, h)
says_in bytes k None e h = absurd (no_number 20 k h)

says : (bytes : List ℕ) (k : Packet ℕ) → header bytes ≡ Ok k → Says bytes k
says bytes k h = says_in bytes k (number bytes) refl h

-- a packet that was read, in lower case, is the packet that is sent
spelt_out : (k : Packet ℕ) (bytes : List ℕ) → Lawful k → payload_length k ≤ length bytes
    → (sendable (with_payload k bytes) ≡ true) × (digits (header_of k) ++ take (payload_length k) bytes ≡ packet (with_payload k bytes))
spelt_out Flush bytes l h = (refl, refl)
spelt_out Delimiter bytes l h = (refl, refl)
spelt_out ResponseEnd bytes l h = (refl, refl)
spelt_out (Data n) bytes l h =
    let e : length (take n bytes) ≡ n = length-take-le n bytes h in (
      rw e (and_from _ _ (le-leb 1 n l.0) (le-leb n 65516 l.1)),
      ap (λ m. digits (m + 4) ++ take n bytes) (sym e),
    )

-- a packet's bytes in lower case: its header, and then its payload
lowered_front : (bytes : List ℕ) (n m : ℕ) → 4 + m ≤ length bytes → number bytes ≡ Some n → lowered (take (4 + m) bytes) ≡ digits n ++ take m (drop 4 bytes)
lowered_front bytes n m h e =
    let f : take 4 (take (4 + m) bytes) ≡ take 4 bytes = take-take 4 (4 + m) bytes (omega arith) in
    let g : drop 4 (take (4 + m) bytes) ≡ take m (drop 4 bytes) = drop-take 4 m bytes in
    ap (λ xs. map lower xs ++ drop 4 (take (4 + m) bytes)) f ∙ ap (λ xs. map lower (take 4 bytes) ++ xs) g
    ∙ ap (λ xs. xs ++ take m (drop 4 bytes)) (digits_read bytes n (omega arith) e)

module _ (bytes : List ℕ) (p : Pkt) (taken rest : List ℕ) where
  abbrev Sent : Type 0
  Sent = (sendable p ≡ true) × (lowered taken ≡ packet p) × (bytes ≡ taken ++ rest)

  other_front : short ≡ whole p taken rest → ⊥
  other_front e = let z : ◌≡◌ {A = ℕ} 0 1 = cc in omega arith

  bad_front : (xs ys : List ℕ) → bad xs ys ≡ whole p taken rest → ⊥
  bad_front xs ys e = let z : ◌≡◌ {A = ℕ} 0 1 = cc in omega arith

  only_kind : (k : Packet ℕ) → Says bytes k → 4 + payload_length k ≤ length bytes
      → whole (with_payload k (drop 4 bytes)) (take (4 + payload_length k) bytes) (drop (4 + payload_length k) bytes) ≡ whole p taken rest → Sent
  only_kind k s h e =
      let a = announced_is s.0 k s.2 in
      let room : payload_length k ≤ length (drop 4 bytes) = simp length-drop (omega arith) in
      let o = spelt_out k (drop 4 bytes) a.1 room in
      let is_p : with_payload k (drop 4 bytes) ≡ p = cc in
      let is_taken : take (4 + payload_length k) bytes ≡ taken = cc in
      let is_rest : drop (4 + payload_length k) bytes ≡ rest = cc in
      let low = lowered_front bytes s.0 (payload_length k) h s.1 in
      let both = take-append-drop (4 + payload_length k) bytes in (
        ap sendable (sym is_p) ∙ o.0,
        ap lowered (sym is_taken) ∙ low ∙ ap (λ n. digits n ++ take (payload_length k) (drop 4 bytes)) a.0 ∙ o.1 ∙ ap packet is_p,
        cc,
      )

  only_fit : (k : Packet ℕ) (b : Bool) → leb (4 + payload_length k) (length bytes) ≡ b → Says bytes k
      → cond b (whole (with_payload k (drop 4 bytes)) (take (4 + payload_length k) bytes) (drop (4 + payload_length k) bytes)) short ≡ whole p taken rest → Sent
  only_fit k true l s e = only_kind k s (leb-true _ _ l) e
  only_fit k false l s e = absurd (other_front e)

  only_header : (r : Result (Packet ℕ) ℕ) → header bytes ≡ r → fronted r bytes ≡ whole p taken rest → Sent
  only_header (Ok k) h e = only_fit k (leb (4 + payload_length k) (length bytes)) refl (says bytes k h) e
  only_header (Err n) h e = absurd (bad_front _ _ e)

  only_sent : front bytes ≡ whole p taken rest → Sent
  only_sent e =
      ⊎_elim (λ (h : length bytes < 4). absurd (other_front (sym (front_none bytes h) ∙ e)))
      (λ (h : 4 ≤ length bytes). only_header (header bytes) refl (sym (front_some bytes h) ∙ e)) (cases_lt (length bytes) 4)

-- the header and the payload of a packet that is sent
abbrev kind : Pkt → Packet ℕ
kind flush = Flush
kind delimiter = Delimiter
kind response_end = ResponseEnd
kind (line l) = Data (length l)

abbrev payload : Pkt → List ℕ
payload flush = []
payload delimiter = []
payload response_end = []
payload (line l) = l

sent_lawful : (p : Pkt) → sendable p ≡ true → Lawful (kind p)
sent_lawful flush s = tt
sent_lawful delimiter s = tt
sent_lawful response_end s = tt
sent_lawful (line l) s = let h = and_parts (leb 1 (length l)) (leb (length l) 65516) s in (leb-true 1 _ h.0, leb-true _ 65516 h.1)

header_small : (k : Packet ℕ) → Lawful k → header_of k < 65536
header_small Flush l = omega arith
header_small Delimiter l = omega arith
header_small ResponseEnd l = omega arith
header_small (Data n) l = omega (arith, l.1)

packet_is : (p : Pkt) → packet p ≡ digits (header_of (kind p)) ++ payload p
packet_is flush = refl
packet_is delimiter = refl
packet_is response_end = refl
packet_is (line l) = refl

payload_is : (p : Pkt) → payload_length (kind p) ≡ length (payload p)
payload_is flush = refl
payload_is delimiter = refl
payload_is response_end = refl
payload_is (line l) = refl

payload_read : (p : Pkt) (rest : List ℕ) → with_payload (kind p) (payload p ++ rest) ≡ p
payload_read flush rest = refl
payload_read delimiter rest = refl
payload_read response_end rest = refl
payload_read (line l) rest = ap line (take_at l rest (length l) refl)

module _ (p : Pkt) (sends : sendable p ≡ true) where
  lawful : Lawful (kind p)
  lawful = sent_lawful p sends

  all_four : (a b c d : ℕ) (ts rest : List ℕ) → lower a ∷ lower b ∷ lower c ∷ lower d ∷ ts ≡ digits (header_of (kind p)) ++ payload p
      → front (a ∷ b ∷ c ∷ d ∷ (ts ++ rest)) ≡ whole p (a ∷ b ∷ c ∷ d ∷ ts) rest
  all_four a b c d ts rest e =
      let bytes : List ℕ = a ∷ b ∷ c ∷ d ∷ (ts ++ rest) in
      let k = kind p in
      let spells : map lower (take 4 bytes) ≡ digits (header_of k) = cc in
      let is_payload : ts ≡ payload p = cc in
      let n = digits_spell bytes (header_of k) (omega arith) (header_small k lawful) spells in
      let heads : header bytes ≡ Ok k = ap heading n ∙ announces k lawful in
      let len : payload_length k ≡ length ts = payload_is p ∙ ap length (sym is_payload) in
      let all : length bytes ≡ 4 + length ts + length rest = simp length-append (omega arith) in
      let f = front_whole bytes k heads (omega (arith, all, len)) in
      let w : with_payload k (ts ++ rest) ≡ p = ap (λ xs. with_payload k (xs ++ rest)) is_payload ∙ payload_read p rest in
      let t = take_at (a ∷ b ∷ c ∷ d ∷ ts) rest (4 + payload_length k) (omega (arith, len)) in
      let r = drop_at (a ∷ b ∷ c ∷ d ∷ ts) rest (4 + payload_length k) (omega (arith, len)) in
      cc

  all_taken : (taken rest : List ℕ) → lowered taken ≡ digits (header_of (kind p)) ++ payload p → front (taken ++ rest) ≡ whole p taken rest
  all_taken [] rest e = let z : ◌≡◌ {A = ℕ} 0 1 = cc in absurd (omega arith)
  all_taken (a ∷ []) rest e = let z : ◌≡◌ {A = ℕ} 0 1 = cc in absurd (omega arith)
  all_taken (a ∷ b ∷ []) rest e = let z : ◌≡◌ {A = ℕ} 0 1 = cc in absurd (omega arith)
  all_taken (a ∷ b ∷ c ∷ []) rest e = let z : ◌≡◌ {A = ℕ} 0 1 = cc in absurd (omega arith)
  all_taken (a ∷ b ∷ c ∷ d ∷ ts) rest e = all_four a b c d ts rest e

  pub all_sent : (bytes taken rest : List ℕ) → lowered taken ≡ packet p → bytes ≡ taken ++ rest → front bytes ≡ whole p taken rest
  all_sent bytes taken rest e h = ap front h ∙ all_taken taken rest (e ∙ packet_is p)

  lowered_packet : lowered (packet p) ≡ packet p
  lowered_packet =
      ap lowered (packet_is p) ∙ ap (λ xs. xs ++ payload p) (digits_lower (header_of (kind p)) (header_small (kind p) lawful)) ∙ sym (packet_is p)

  -- what was sent reads back as itself, whatever follows it
  pub sent_back : (rest : List ℕ) → front (packet p ++ rest) ≡ whole p (packet p) rest
  sent_back rest = all_sent (packet p ++ rest) (packet p) rest lowered_packet refl

pub reads_sent : (bytes : List ℕ) → ReadsSent bytes
reads_sent bytes = record { only = only_sent bytes; all = λ p taken rest s e h. all_sent p s bytes taken rest e h }
