-- Lines `key=value` that can be sent.
use Rattle.std.proofs.Common.{◌≡◌, ℕ, zero, suc, ◌+◌, ◌<◌, ◌≤◌, Bool, true, ◌&&◌, leb, List, [], ◌∷◌, ◌++◌, map, length, get_or, drop, sym, refl, ap, ◌∙◌, arith, length-append}
use Rattle.std.specs.List.{list_all}
use Rattle.std.proofs.lemmas.Bool.{le-leb, leb-true, and_parts}
use Rattle.packetline.specs.Packets.{Pkt, flush, line_pkt, sendable, all_sendable}
use Rattle.client.specs.declared.invoke.Meta.{Meta}
use Rattle.client.specs.Requests.{meta_line, command_line, request}
use Rattle.process.proofs.Lines.{lines_next, lines_last}

pair_length : (k v : List ℕ) → length (k ++ 61 ∷ v) ≡ length k + 1 + length v
pair_length k v = simp length-append (omega arith)

pub pair_fits : (k v : List ℕ) → leb (length k + 1 + length v) 65516 ≡ sendable (line_pkt (k ++ 61 ∷ v))
pair_fits k v =
    let n = pair_length k v in
    let one = le-leb 1 (length (k ++ 61 ∷ v)) (omega arith) in
    ap (λ m. leb m 65516) (sym n) ∙ ap (λ b. b && leb (length (k ++ 61 ∷ v)) 65516) (sym one)

pair_short : (k v : List ℕ) → sendable (line_pkt (k ++ 61 ∷ v)) ≡ true → length k + length v + 1 ≤ 65516
pair_short k v h = let n = leb-true _ _ (pair_fits k v ∙ h) in omega arith

-- what a read of metadata falls back on
abbrev pub no_meta : Meta
no_meta = record { key = record { ref_ptr = (0, 0); now = [] }; value = record { ref_ptr = (0, 0); now = [] } }

-- the lines of metadata from the i-th on, and a flush
abbrev pub meta_from : ℕ → List Meta → List Pkt
meta_from i ms = map meta_line (drop i ms) ++ flush ∷ []

pub request_first : (command : List ℕ) (ms : List Meta) → request command ms ≡ command_line command ∷ meta_from 0 ms
request_first command ms = refl

pub meta_next : (ms : List Meta) (i : ℕ) → i < length ms → meta_from i ms ≡ meta_line (get_or ms i no_meta) ∷ meta_from (i + 1) ms
meta_next ms i h = lines_next meta_line ms i no_meta h

pub meta_last : (ms : List Meta) (i : ℕ) → length ms ≤ i → meta_from i ms ≡ flush ∷ []
meta_last ms i h = lines_last meta_line ms i h

-- each line of a request that can be sent is short enough

each_sendable : (ms : List Meta) (i : ℕ) → all_sendable (meta_from 0 ms) ≡ true → i < length ms → sendable (meta_line (get_or ms i no_meta)) ≡ true
each_sendable [] i h k = absurd (omega arith)
each_sendable (m ∷ ms) zero h k = (and_parts (sendable (meta_line m)) (all_sendable (meta_from 0 ms)) h).0
each_sendable (m ∷ ms) (suc i) h k = each_sendable ms i (and_parts (sendable (meta_line m)) (all_sendable (meta_from 0 ms)) h).1 (omega arith)

pub meta_short : (command : List ℕ) (ms : List Meta) (i : ℕ) → all_sendable (request command ms) ≡ true → i < length ms
    → length (get_or ms i no_meta).key.now + length (get_or ms i no_meta).value.now + 1 ≤ 65516
meta_short command ms i h k =
    pair_short (get_or ms i no_meta).key.now (get_or ms i no_meta).value.now
    (each_sendable ms i (and_parts (sendable (command_line command)) (all_sendable (meta_from 0 ms)) h).1 k)

-- Judging all lines

pub lines_all : (ms : List Meta) → list_all (λ m. sendable (meta_line m)) ms ≡ all_sendable (meta_from 0 ms)
lines_all [] = refl
lines_all (m ∷ ms) = ap (λ b. sendable (meta_line m) && b) (lines_all ms)

pub request_all : (command : List ℕ) (ms : List Meta) (b : Bool) → true ≡ sendable (command_line command) → b ≡ list_all (λ m. sendable (meta_line m)) ms → b ≡ all_sendable (request command ms)
request_all command ms b first rest = rest ∙ lines_all ms ∙ ap (λ c. c && all_sendable (meta_from 0 ms)) first
