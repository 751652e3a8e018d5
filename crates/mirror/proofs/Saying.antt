-- Bytes that are said behind others, and bytes that are received.
use Rattle.std.proofs.Common.{◌≡◌, ℕ, zero, suc, ◌+◌, ◌*◌, ◌-◌, ◌<◌, ◌≤◌, List, [], ◌∷◌, ◌++◌, map, length, take, drop, sym, refl, ap, ◌∙◌, arith}
use borrow.Rule.Slice.PartMut.{mid_of, put_mid, post_of}
use Rattle.std.proofs.lemmas.List.{append_assoc, length-append, length-drop, length-take-le, append-nil, drop-append-le, drop-take, drop_all, take_all, take_at}
use Rattle.packetline.specs.Packets.{Pkt, flush, line, packet, packets, over}
use Rattle.slices.specs.declared.name.Name.{Name}
use Rattle.handshake.specs.Servers.{shared_line}
use Rattle.host.specs.Parts.{parts_in, parts}
use Rattle.process.proofs.Passes.{packets_append}
use Rattle.mirror.specs.Reflecting.{writing_packets}

-- n bytes are laid behind the last that waits
pub said_behind : (bytes new laid : List ℕ) (from to room n : ℕ) → from ≤ to → to ≤ length bytes → n ≡ length new → laid ≡ over new (mid_of to room bytes)
    → take (to + n - from) (drop from (put_mid to room bytes laid)) ≡ take (to - from) (drop from bytes) ++ new
said_behind bytes new laid from to room n h k e l =
    let front = take to bytes in
    let waits = take (to - from) (drop from bytes) in
    let tail = drop (length new) (mid_of to room bytes) ++ post_of to room bytes in
    let long : length front ≡ to = length-take-le to bytes k in
    let cut : drop from front ≡ waits = let z : to ≡ from + (to - from) = omega arith in ap (λ m. drop from (take m bytes)) z ∙ drop-take from (to - from) bytes in
    let many : length waits ≡ to - from = length-take-le (to - from) (drop from bytes) (let d = length-drop from bytes in omega arith) in
    let all : length (waits ++ new) ≡ to + n - from = length-append waits new ∙ omega arith in
    let laid_is : laid ++ post_of to room bytes ≡ new ++ tail = ap (λ x. x ++ post_of to room bytes) l ∙ append_assoc new (drop (length new) (mid_of to room bytes)) (post_of to room bytes) in
    ap (λ x. take (to + n - from) (drop from (front ++ x))) laid_is
    ∙ ap (take (to + n - from)) (drop-append-le from front (new ++ tail) (omega arith) ∙ ap (λ x. x ++ (new ++ tail)) cut ∙ sym (append_assoc waits new tail))
    ∙ take_at (waits ++ new) tail (to + n - from) all

-- Packets behind what waits

-- what waits, with packets that are still to be said, is what is to wait in the end
pub record ToSay (waits : List ℕ) (left : List Pkt) (all : List ℕ) : Type 0 where
  pub total : waits ++ packets left ≡ all

pub none_said : (waits : List ℕ) (ps : List Pkt) → ToSay waits ps (waits ++ packets ps)
none_said waits ps = record { total = refl }

pub one_said : {waits all waits' : List ℕ} {left : List Pkt} {p : Pkt} {ps : List Pkt} → ToSay waits left all → left ≡ p ∷ ps → waits' ≡ waits ++ packet p → ToSay waits' ps all
one_said {waits} {all} {waits'} {left} {p} {ps} h next e =
    record { total = ap (λ x. x ++ packets ps) e ∙ append_assoc waits (packet p) (packets ps) ∙ ap (λ xs. waits ++ packets xs) (sym next) ∙ h.total }

pub some_said : {waits all waits' : List ℕ} {left : List Pkt} (ps qs : List Pkt) → ToSay waits left all → left ≡ ps ++ qs → waits' ≡ waits ++ packets ps → ToSay waits' qs all
some_said {waits} {all} {waits'} {left} ps qs h next e =
    record {
      total =
          ap (λ x. x ++ packets qs) e ∙ append_assoc waits (packets ps) (packets qs) ∙ ap (λ x. waits ++ x) (sym (packets_append ps qs)) ∙ ap (λ xs. waits ++ packets xs) (sym next) ∙ h.total;
    }

pub all_said : {waits all : List ℕ} → ToSay waits [] all → waits ≡ all
all_said {waits} h = sym (append-nil waits) ∙ h.total

-- a line for each shared name, from the i-th on, and a flush; each line so far took at most 79 bytes
pub record SharesOn (names : List Name) (ks : List ℕ) (i : ℕ) (waits : List ℕ) (to : ℕ) (all : List ℕ) : Type 0 where
  pub say : ToSay waits (map (shared_line names) (drop i ks) ++ flush ∷ []) all
  pub room : to ≤ 79 * i
  pub few : i ≤ 32

-- A writing

no_parts : (k : ℕ) → parts_in k [] ≡ []
no_parts zero = refl
no_parts (suc k) = refl

one_part : (c : List ℕ) → 0 < length c → length c ≤ 65516 → parts c ≡ c ∷ []
unfolding parts
one_part [] some h = absurd (omega arith)
one_part (b ∷ c) some h =
    ap (λ l. l ∷ parts_in (length c) (drop 65516 (b ∷ c))) (take_all 65516 (b ∷ c) h)
    ∙ ap (λ l. (b ∷ c) ∷ parts_in (length c) l) (drop_all 65516 (b ∷ c) h)
    ∙ ap (λ ls. (b ∷ c) ∷ ls) (no_parts (length c))

empty_parts : parts [] ≡ []
unfolding parts
empty_parts = refl

pub writing_none : (c : List ℕ) → length c ≡ 0 → writing_packets c ≡ flush ∷ []
writing_none [] e = ap (λ ls. map line ls ++ flush ∷ []) empty_parts
writing_none (b ∷ c) e = absurd (omega arith)

pub writing_some : (c : List ℕ) → 0 < length c → length c ≤ 65516 → writing_packets c ≡ line c ∷ flush ∷ []
writing_some c some h = ap (λ ls. map line ls ++ flush ∷ []) (one_part c some h)
