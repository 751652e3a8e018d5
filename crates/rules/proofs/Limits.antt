-- Arguments within their limits give lines that can be sent; how many flushes are sent.
use Rattle.std.proofs.Common.{◌≡◌, ℕ, ◌*◌, ◌≤◌, Bool, true, false, cond, leb, List, [], ◌∷◌, ◌++◌, map, length, Some, None, codes, Option, refl, arith}
use Rattle.std.specs.Option.{option_map_or}
use Rattle.std.proofs.lemmas.List.{length-append}
use Rattle.std.proofs.lemmas.Bool.{and_from, and_parts, le-leb, leb-true}
use Rattle.packetline.specs.Packets.{Pkt, flush, line, sendable, all_sendable, flushes_of}
use Rattle.host.specs.Parts.{parts}
use Rattle.host.proofs.Parts.{parted}
use Rattle.process.proofs.Tellings.{flushes_append, lines_flushes}
use Rattle.client.specs.Requests.{content_packets}
use Rattle.records.specs.declared.operation.Operation.{Operation}
use Rattle.records.specs.declared.operation.Operation.TheVariants.{Clean, Smudge}
use Rattle.records.specs.declared.id.ObjectId.{ObjectId}
use Rattle.records.specs.Ids.{id_digits}
use Rattle.records.specs.Limits.{is_within, is_path, is_ref_name}
use Rattle.rules.specs.Calls.{Asked, asks_within}
use Rattle.rules.specs.Steps.{pair_line, line_if, digits_of, request_for, asked_lines}

pub sendable_append : (ps qs : List Pkt) → all_sendable ps ≡ true → all_sendable qs ≡ true → all_sendable (ps ++ qs) ≡ true
sendable_append [] qs a b = b
sendable_append (p ∷ ps) qs a b = let h = and_parts (sendable p) (all_sendable ps) a in and_from (sendable p) (all_sendable (ps ++ qs)) h.0 (sendable_append ps qs h.1 b)

pair_sendable : (key value : List ℕ) → length key ≤ 100 → length value ≤ 4096 → sendable (pair_line key value) ≡ true
pair_sendable key value k v =
    let e = length-append key (61 ∷ value) in
    and_from (leb 1 (length (key ++ 61 ∷ value))) (leb (length (key ++ 61 ∷ value)) 65516) (le-leb 1 (length (key ++ 61 ∷ value)) (omega arith)) (le-leb (length (key ++ 61 ∷ value)) 65516 (omega arith))

pair_alone : (key value : List ℕ) → length key ≤ 100 → length value ≤ 4096 → all_sendable (pair_line key value ∷ []) ≡ true
pair_alone key value k v = and_from (sendable (pair_line key value)) true (pair_sendable key value k v) refl

high_of : (most : ℕ) (text : List ℕ) → is_within most text ≡ true → length text ≤ most
high_of most text e = leb-true (length text) most (and_parts (leb 1 (length text)) (leb (length text) most) e).1

ref_sendable : (o : Option (List ℕ)) → option_map_or is_ref_name o true ≡ true → all_sendable (line_if (codes "ref") o) ≡ true
ref_sendable None e = refl
ref_sendable (Some text) e = pair_alone (codes "ref") text (omega arith) (let x = high_of 1024 text e in omega arith)

length_digits : (bytes : List ℕ) → length (id_digits bytes) ≡ 2 * length bytes
length_digits [] = refl
length_digits (b ∷ bs) = let e = length_digits bs in omega arith

id_sendable : (key : List ℕ) (o : Option ObjectId) → length key ≤ 100 → all_sendable (line_if key (digits_of o)) ≡ true
id_sendable key None k = refl
id_sendable key (Some id) k = pair_alone key (id_digits id.bytes) k (let x = id.room in let y = length_digits id.bytes in omega arith)

delay_sendable : (b : Bool) → all_sendable (cond b (pair_line (codes "can-delay") (codes "1") ∷ []) []) ≡ true
delay_sendable true = refl
delay_sendable false = refl

asked_sendable : (a : Asked) (b : Bool) → asks_within a ≡ true → all_sendable (asked_lines a b) ≡ true
asked_sendable a b e =
    let x = and_parts (is_path a.rela_path) (option_map_or is_ref_name a.ref_name true) e in
    sendable_append (line_if (codes "ref") a.ref_name) _ (ref_sendable a.ref_name x.1)
    (sendable_append (line_if (codes "treeish") (digits_of a.treeish)) _ (id_sendable (codes "treeish") a.treeish (omega arith))
    (sendable_append (line_if (codes "blob") (digits_of a.blob)) _ (id_sendable (codes "blob") a.blob (omega arith)) (delay_sendable b)))

request_sendable : (op : Operation) (path : List ℕ) (more : List Pkt) → is_path path ≡ true → all_sendable more ≡ true → all_sendable (request_for op path more) ≡ true
request_sendable Clean path more e m =
    and_from (sendable (pair_line (codes "pathname") path)) _ (pair_sendable (codes "pathname") path (omega arith) (high_of 4096 path e)) (sendable_append more (flush ∷ []) m refl)
request_sendable Smudge path more e m =
    and_from (sendable (pair_line (codes "pathname") path)) _ (pair_sendable (codes "pathname") path (omega arith) (high_of 4096 path e)) (sendable_append more (flush ∷ []) m refl)

content_sendable : (content : List ℕ) → all_sendable (content_packets content) ≡ true
content_sendable content = sendable_append (map line (parts content)) (flush ∷ []) (parted content).1 refl

pub apply_sendable : (op : Operation) (a : Asked) (b : Bool) → asks_within a ≡ true → all_sendable (request_for op a.rela_path (asked_lines a b) ++ content_packets a.content) ≡ true
apply_sendable op a b e =
    sendable_append (request_for op a.rela_path (asked_lines a b)) (content_packets a.content)
    (request_sendable op a.rela_path (asked_lines a b) (and_parts (is_path a.rela_path) (option_map_or is_ref_name a.ref_name true) e).0 (asked_sendable a b e))
    (content_sendable a.content)

pub fetch_sendable : (op : Operation) (path : List ℕ) → is_path path ≡ true → all_sendable (request_for op path [] ++ content_packets []) ≡ true
fetch_sendable op path e = sendable_append (request_for op path []) (content_packets []) (request_sendable op path [] e refl) (content_sendable [])

-- Flushes

if_flushes : (key : List ℕ) (o : Option (List ℕ)) → flushes_of (line_if key o) ≡ 0
if_flushes key None = refl
if_flushes key (Some text) = refl

delay_flushes : (b : Bool) → flushes_of (cond b (pair_line (codes "can-delay") (codes "1") ∷ []) []) ≡ 0
delay_flushes true = refl
delay_flushes false = refl

asked_flushes : (a : Asked) (b : Bool) → flushes_of (asked_lines a b) ≡ 0
asked_flushes a b =
    let d : List Pkt = cond b (pair_line (codes "can-delay") (codes "1") ∷ []) [] in
    let x = flushes_append (line_if (codes "ref") a.ref_name) (line_if (codes "treeish") (digits_of a.treeish) ++ (line_if (codes "blob") (digits_of a.blob) ++ d)) in
    let y = flushes_append (line_if (codes "treeish") (digits_of a.treeish)) (line_if (codes "blob") (digits_of a.blob) ++ d) in
    let z = flushes_append (line_if (codes "blob") (digits_of a.blob)) d in
    omega (arith, if_flushes (codes "ref") a.ref_name, if_flushes (codes "treeish") (digits_of a.treeish), if_flushes (codes "blob") (digits_of a.blob), delay_flushes b)

request_flushes : (op : Operation) (path : List ℕ) (more : List Pkt) → flushes_of more ≡ 0 → flushes_of (request_for op path more) ≡ 1
request_flushes op path more e = let x = flushes_append more (flush ∷ []) in let f : flushes_of (flush ∷ []) ≡ 1 = refl in omega arith

content_flushes : (content : List ℕ) → flushes_of (content_packets content) ≡ 1
content_flushes content = let x = flushes_append (map line (parts content)) (flush ∷ []) in let y = lines_flushes (parts content) in let f : flushes_of (flush ∷ []) ≡ 1 = refl in omega arith

pub apply_flushes : (op : Operation) (a : Asked) (b : Bool) → flushes_of (request_for op a.rela_path (asked_lines a b) ++ content_packets a.content) ≡ 2
apply_flushes op a b =
    let x = flushes_append (request_for op a.rela_path (asked_lines a b)) (content_packets a.content) in
    omega (arith, request_flushes op a.rela_path (asked_lines a b) (asked_flushes a b), content_flushes a.content)

pub fetch_flushes : (op : Operation) (path : List ℕ) → flushes_of (request_for op path [] ++ content_packets []) ≡ 2
fetch_flushes op path =
    let x = flushes_append (request_for op path []) (content_packets []) in
    omega (arith, request_flushes op path [] refl, content_flushes [])
