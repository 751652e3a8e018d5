-- A whole byte string, packet by packet.
use Rattle.std.proofs.Common.{◌≡◌, ℕ, zero, suc, ◌+◌, ◌-◌, ◌<◌, ◌≤◌, true, List, [], ◌∷◌, ◌++◌, length, drop, Some, Bor, sym, refl, ap, ◌∙◌, subst, add_assoc, zero-add, arith}
use Rattle.std.proofs.lemmas.List.{length-append, append_assoc, append-nil, drop_at}
use Rattle.std.proofs.lemmas.Bool.{and_parts}
use Rattle.packetline.specs.declared.decode.Tally.{Tally}
use Rattle.packetline.specs.declared.packet.Packet.{Packet}
use Rattle.packetline.specs.declared.packet.Packet.TheVariants.{Data, Flush, Delimiter, ResponseEnd}
use Rattle.packetline.specs.Reads.{pkt, Next, Counted}
use Rattle.packetline.specs.Packets.{Pkt, flush, delimiter, response_end, line, sendable, packet, lowered, Front, whole, bad, short, front, Decoded, and_more, decode_in, decode, flush_one, flushes_of, packets, all_sendable, DecodesSent}
use Rattle.packetline.proofs.Fronts.{front_none}
use Rattle.packetline.proofs.Exact.{reads_sent, sent_back}

-- a packet has bytes
some_packet : (p : Pkt) → packet p ≡ [] → ⊥
some_packet flush e = let z : ◌≡◌ {A = ℕ} 0 1 = cc in omega arith
some_packet delimiter e = let z : ◌≡◌ {A = ℕ} 0 1 = cc in omega arith
some_packet response_end e = let z : ◌≡◌ {A = ℕ} 0 1 = cc in omega arith
some_packet (line l) e = let z : ◌≡◌ {A = ℕ} 0 1 = cc in omega arith

some_taken : (p : Pkt) (taken : List ℕ) → lowered taken ≡ packet p → 0 < length taken
some_taken p [] e = absurd (some_packet p (sym e))
some_taken p (b ∷ bs) e = omega arith

-- what follows a packet is shorter
pub shorter : (bytes : List ℕ) (p : Pkt) (taken rest : List ℕ) → front bytes ≡ whole p taken rest → length rest < length bytes
shorter bytes p taken rest e =
    let o = (reads_sent bytes).only p taken rest e in
    let len : length bytes ≡ length taken + length rest = ap length o.2 ∙ length-append taken rest in
    omega (arith, len, some_taken p taken o.1)

-- the bound on the number of packets does not matter
same_more : (f : Front) (bytes : List ℕ) (x y : List ℕ → Decoded) → ((p : Pkt) (taken rest : List ℕ) → f ≡ whole p taken rest → x rest ≡ y rest)
    → and_more f bytes x ≡ and_more f bytes y
same_more (whole p taken rest) bytes x y h = ap (λ (d : Decoded). record { packets = p ∷ d.packets; left = d.left }) (h p taken rest refl)
same_more (bad taken rest) bytes x y h = refl
same_more short bytes x y h = refl

nothing : (k : ℕ) (bytes : List ℕ) → length bytes ≤ 0 → decode_in k bytes ≡ record { packets = []; left = bytes }
nothing zero bytes h = refl
nothing (suc k) bytes h = ap (λ f. and_more f bytes (decode_in k)) (front_none bytes (omega arith))

enough : (k m : ℕ) (bytes : List ℕ) → length bytes ≤ k → length bytes ≤ m → decode_in k bytes ≡ decode_in m bytes
enough zero m bytes h l = sym (nothing m bytes h)
enough (suc k) zero bytes h l = nothing (suc k) bytes l
enough (suc k) (suc m) bytes h l =
    same_more (front bytes) bytes (decode_in k) (decode_in m)
    (λ p taken rest e. let s = shorter bytes p taken rest e in enough k m rest (omega arith) (omega arith))

-- one packet, and then the others
pub decode_more : (bytes : List ℕ) → decode bytes ≡ and_more (front bytes) bytes decode
unfolding decode
decode_more bytes =
    enough (length bytes) (suc (length bytes)) bytes (omega arith) (omega arith)
    ∙ same_more (front bytes) bytes (decode_in (length bytes)) decode
    (λ p taken rest e. let s = shorter bytes p taken rest e in enough (length bytes) (length rest) rest (omega arith) (omega arith))

flushes_append : (ps qs : List Pkt) → flushes_of (ps ++ qs) ≡ flushes_of ps + flushes_of qs
flushes_append [] qs = sym (zero-add (flushes_of qs))
flushes_append (p ∷ ps) qs = ap (λ n. flush_one p + n) (flushes_append ps qs) ∙ sym (add_assoc (flush_one p) (flushes_of ps) (flushes_of qs))

-- so many packets and flushes were read of bytes, and rest is still to be read
pub record SoFar (bytes : List ℕ) (packets flushes : ℕ) (rest : List ℕ) : Type 0 where
  pub read : List Pkt
  pub packets_are : (decode bytes).packets ≡ read ++ (decode rest).packets
  pub left_is : (decode bytes).left ≡ (decode rest).left
  pub counted : packets ≡ length read
  pub flushed : flushes ≡ flushes_of read
  pub taken : List ℕ
  pub parts : bytes ≡ taken ++ rest
  pub enough_bytes : length read ≤ length taken

pub at_start : (bytes : List ℕ) → SoFar bytes 0 0 bytes
at_start bytes = record { read = []; packets_are = refl; left_is = refl; counted = refl; flushed = refl; taken = []; parts = refl; enough_bytes = omega arith }

one_more : (bytes : List ℕ) (packets flushes : ℕ) (rest : List ℕ) (p : Pkt) (more rest' : List ℕ) → SoFar bytes packets flushes rest → front rest ≡ whole p more rest'
    → SoFar bytes (packets + 1) (flushes + flush_one p) rest'
one_more bytes packets flushes rest p more rest' s e =
    let o = (reads_sent rest).only p more rest' e in
    let d : decode rest ≡ record { packets = p ∷ (decode rest').packets; left = (decode rest').left } = decode_more rest ∙ ap (λ f. and_more f rest decode) e in
    let some = some_taken p more o.1 in
    record {
      read = s.read ++ p ∷ [];
      packets_are = s.packets_are ∙ ap (λ (x : Decoded). s.read ++ x.packets) d ∙ sym (append_assoc s.read (p ∷ []) (decode rest').packets);
      left_is = s.left_is ∙ ap (λ (x : Decoded). x.left) d;
      counted = simp length-append (omega (arith, s.counted));
      flushed = simp flushes_append (omega (arith, s.flushed));
      taken = s.taken ++ more;
      parts = s.parts ∙ ap (λ xs. s.taken ++ xs) o.2 ∙ sym (append_assoc s.taken more rest');
      enough_bytes = simp length-append (omega (arith, s.enough_bytes, some));
    }

few : (bytes : List ℕ) (packets flushes : ℕ) (rest : List ℕ) (p : Pkt) (more rest' : List ℕ) → SoFar bytes packets flushes rest → front rest ≡ whole p more rest'
    → packets + 1 ≤ length bytes
few bytes packets flushes rest p more rest' s e =
    let len : length bytes ≡ length s.taken + length rest = ap length s.parts ∙ length-append s.taken rest in
    omega (arith, len, s.counted, s.enough_bytes, shorter rest p more rest' e)

few_flushes : (ps : List Pkt) → flushes_of ps ≤ length ps
few_flushes [] = omega arith
few_flushes (flush ∷ ps) = omega (arith, few_flushes ps)
few_flushes (delimiter ∷ ps) = omega (arith, few_flushes ps)
few_flushes (response_end ∷ ps) = omega (arith, few_flushes ps)
few_flushes (line l ∷ ps) = omega (arith, few_flushes ps)

fewer : (bytes : List ℕ) (packets flushes : ℕ) (rest : List ℕ) → SoFar bytes packets flushes rest → flushes ≤ packets
fewer bytes packets flushes rest s = omega (arith, s.counted, s.flushed, few_flushes s.read)

stopped : (f : Front) (bytes : List ℕ) (more : List ℕ → Decoded) → ((p : Pkt) (taken rest : List ℕ) → f ≡ whole p taken rest → ⊥) → and_more f bytes more ≡ record { packets = []; left = bytes }
stopped (whole p taken rest) bytes more h = absurd (h p taken rest refl)
stopped (bad taken rest) bytes more h = refl
stopped short bytes more h = refl

-- where no whole packet stands, all is counted
pub at_end : (bytes : List ℕ) (t : Tally) (rest : List ℕ) → SoFar bytes t.packets t.flushes rest → ((p : Pkt) (taken rest' : List ℕ) → front rest ≡ whole p taken rest' → ⊥)
    → t.bytes_consumed ≡ length bytes - length rest → Counted bytes t
at_end bytes t rest s h n =
    let d = decode_more rest ∙ stopped (front rest) rest decode h in
    let all : (decode bytes).packets ≡ s.read = s.packets_are ∙ ap (λ (x : Decoded). s.read ++ x.packets) d ∙ append-nil s.read in
    let len : length bytes ≡ length s.taken + length rest = ap length s.parts ∙ length-append s.taken rest in
    record {
      packets_are = s.counted ∙ ap length (sym all);
      flushes_are = s.flushed ∙ ap flushes_of (sym all);
      left_is = ap (drop t.bytes_consumed) s.parts ∙ drop_at s.taken rest t.bytes_consumed (omega (arith, n, len)) ∙ sym (s.left_is ∙ ap (λ (x : Decoded). x.left) d);
      within = omega (arith, n);
    }

-- what was sent decodes to itself
pub decodes_sent : (bytes : List ℕ) → DecodesSent bytes
decodes_sent bytes ps rest s e = let d = in_order ps rest s in (ap (λ xs. (decode xs).packets) e ∙ d.0, ap (λ xs. (decode xs).left) e ∙ d.1)
  where
    in_order : (qs : List Pkt) (xs : List ℕ) → all_sendable qs ≡ true
        → ((decode (packets qs ++ xs)).packets ≡ qs ++ (decode xs).packets) × ((decode (packets qs ++ xs)).left ≡ (decode xs).left)
    in_order [] xs h = (refl, refl)
    in_order (q ∷ qs) xs h =
        let k = and_parts (sendable q) (all_sendable qs) h in
        let i = in_order qs xs k.1 in
        let regroup : packets (q ∷ qs) ++ xs ≡ packet q ++ (packets qs ++ xs) = append_assoc (packet q) (packets qs) xs in
        let d : decode (packet q ++ (packets qs ++ xs)) ≡ record { packets = q ∷ (decode (packets qs ++ xs)).packets; left = (decode (packets qs ++ xs)).left } =
        decode_more (packet q ++ (packets qs ++ xs)) ∙ ap (λ f. and_more f (packet q ++ (packets qs ++ xs)) decode) (sent_back q k.0 (packets qs ++ xs)) in
        let whole_is = ap decode regroup ∙ d in
        (ap (λ (x : Decoded). x.packets) whole_is ∙ ap (λ ys. q ∷ ys) i.0, ap (λ (x : Decoded). x.left) whole_is ∙ i.1)

pub no_flush : (x : Packet (Bor (List ℕ))) → (x ≡ Flush → ⊥) → flush_one (pkt x) ≡ 0
no_flush (Data payload) h = refl
no_flush Flush h = absurd (h refl)
no_flush Delimiter h = refl
no_flush ResponseEnd h = refl

-- the same of one step of the iteration
pub next_more : (bytes : List ℕ) (packets flushes flushes' : ℕ) (rest : List ℕ) (x : Packet (Bor (List ℕ))) (rest' : List ℕ) → SoFar bytes packets flushes rest
    → Next rest (Some x) rest' → flushes + flush_one (pkt x) ≡ flushes' → SoFar bytes (packets + 1) flushes' rest'
next_more bytes packets flushes flushes' rest x rest' s n e =
    subst (λ m. SoFar bytes (packets + 1) m rest') e (one_more bytes packets flushes rest (pkt x) n.0 rest' s n.1)

pub next_fits : (bytes : List ℕ) (packets flushes : ℕ) (rest : List ℕ) (x : Packet (Bor (List ℕ))) (rest' : List ℕ) → SoFar bytes packets flushes rest
    → Next rest (Some x) rest' → (packets + 1 ≤ length bytes) × (flushes + 1 ≤ length bytes)
next_fits bytes packets flushes rest x rest' s n =
    let h = few bytes packets flushes rest (pkt x) n.0 rest' s n.1 in
    (h, omega (arith, h, fewer bytes packets flushes rest s))
