-- What holds of a record and its process's story, and what one call more leaves of it.
use Rattle.std.proofs.Common.{◌≡◌, ℕ, ◌+◌, ◌*◌, Bool, true, false, cond, not, ◌&&◌, ◌||◌, eqb, List, [], ◌∷◌, ◌++◌, Some, None, Option, sym, refl, ap, ◌∙◌, arith}
use Rattle.std.specs.Prelude.{is_some}
use Rattle.std.proofs.lemmas.List.{append_assoc, append-nil}
use Rattle.std.proofs.lemmas.Bool.{and_parts}
use Rattle.packetline.specs.Packets.{Pkt, line, Decoded, decode, packets, all_sendable, flushes_of}
use Rattle.packetline.proofs.Decoding.{decodes_sent}
use Rattle.host.specs.declared.fault.Fault.TheVariants.{Closed, Broken, Other as other_fault}
use Rattle.host.specs.declared.fault.LineFault.{LineFault}
use Rattle.host.specs.declared.fault.LineFault.TheVariants.{Host, Packet, Marker, Text}
use Rattle.host.specs.Talk.{Event, bytes_sent, bytes_given}
use Rattle.process.specs.declared.status.Status.{Status}
use Rattle.process.specs.declared.status.Word.TheVariants.{Success, Delayed, Abort, Error, Other}
use Rattle.process.specs.declared.status.Status.TheVariants.{Previous, Unset, Named}
use Rattle.process.specs.Given.{ReadsAs}
use Rattle.process.specs.Masks.{holds, without_bit}
use Rattle.process.proofs.Masks.{holds_without}
use Rattle.process.proofs.Passes.{decode_empty, decode_append, packets_append}
use Rattle.process.proofs.Tellings.{flushes_append}
use Rattle.client.specs.Listings.{Counts, list_request}
use Rattle.client.specs.Results.{Piece, payload as piece, final}
use Rattle.records.specs.declared.key.Key.{Key}
use Rattle.records.specs.declared.operation.Operation.{Operation}
use Rattle.records.specs.declared.operation.Operation.TheVariants.{Clean, Smudge}
use Rattle.records.specs.declared.record.Record.{Record}
use Rattle.records.specs.Operations.{operation_place}
use Rattle.rules.specs.Names.{can_do}
use Rattle.rules.specs.Calls.{Asked, Call, apply, fetch, list, read}
use Rattle.rules.specs.Answers.{Answer, passed, delayed, result, payload, finished, paths, full, failed, unfinished, unasked, fault}
use Rattle.rules.specs.Steps.{Verdict, after_fault, after_exchange, delayed_if, listed, after_listing, after_final, after_piece, seated}
use Rattle.rules.specs.Stories.{episode, Story, all_given, all_sent, one_if, list_counts, is_settled, exchange_counts, result_counts, lists, exchanges, results, opened, open_after, open_result, open_count, is_fault, faulted, has_named, behind_flushes, status_from, flushes_before, status_of_call, is_abort, operation_of, same_operation, is_for, aborts, aborted, stray_applies_in, stray_applies}
use Rattle.rules.specs.Rules.{Flushes}
use Rattle.rules.proofs.Steps.{FateGood}
use Rattle.rules.proofs.Talks.{Sofar, Cut, cut_of, Told, Ends, no_status, Pieced}
use Rattle.rules.proofs.Limits.{sendable_append}

-- all bytes are whole packets, with so many flushes; c is 2, or 0 before the handshake
pub record Flow (c : ℕ) (h : Story) : Type 0 where
  pub heard : List Pkt
  pub heard_whole : ReadsAs (all_given h) heard
  pub heard_count : flushes_of heard ≡ c + 2 * lists h + exchanges h + 3 * results h + open_count h
  pub said : List Pkt
  pub said_whole : all_sent h ≡ packets said
  pub said_sendable : all_sendable said ≡ true
  pub said_count : flushes_of said ≡ c + lists h + 2 * (exchanges h + results h + open_count h)

abbrev pub begun : Story → Bool
begun [] = false
begun (e ∷ past) = true

pub record Good (r : Record) (h : Story) : Type 0 where
  pub same_reading : r.reading ≡ open_result h
  pub has_begun : begun h ≡ true
  pub naming : (op : Operation) → can_do op r.capabilities ≡ true → (x : List ℕ) → has_named op (all_given h ++ x) ≡ true
  pub unaborted : (op : Operation) → can_do op r.capabilities ≡ true → aborted op h ≡ false
  pub no_stray : stray_applies h ≡ 0
  pub flow : faulted h ≡ false → Flow 2 h

-- rule (b) of one story
pub flushes_of_flow : (h : Story) → Flow 2 h → Flushes h
flushes_of_flow h f = record {
  given = ap (λ (d : Decoded). flushes_of d.packets) f.heard_whole ∙ f.heard_count;
  sent =
      let d = decodes_sent (all_sent h) f.said [] f.said_sendable (f.said_whole ∙ sym (append-nil (packets f.said))) in
      ap flushes_of (d.0 ∙ ap (λ (x : Decoded). f.said ++ x.packets) decode_empty ∙ append-nil f.said) ∙ f.said_count;
}

abbrev some_count : Option Operation → ℕ
some_count o = one_if (is_some o)

flow_step : (c c' : ℕ) (h : Story) (k : Call) (es : List Event) (a : Answer) (gs ts : List Pkt) → Flow c h → Sofar gs ts es → all_sendable ts ≡ true
    → flushes_of gs + (c + some_count (open_result h)) ≡ c' + (2 * list_counts k a + exchange_counts k a + 3 * result_counts k a + some_count (open_after k (open_result h) a))
    → flushes_of ts + (c + 2 * some_count (open_result h)) ≡ c' + (list_counts k a + 2 * (exchange_counts k a + result_counts k a + some_count (open_after k (open_result h) a)))
    → Flow c' (episode k es a ∷ h)
flow_step c c' h k es a gs ts f s can x y = record {
  heard = f.heard ++ gs;
  heard_whole = decode_append (all_given h) (bytes_given es) f.heard f.heard_whole ∙ ap (λ (d : Decoded). record { packets = f.heard ++ d.packets; left = d.left }) s.heard;
  heard_count = flushes_append f.heard gs ∙ (let z = f.heard_count in omega arith);
  said = f.said ++ ts;
  said_whole = ap (λ xs. xs ++ bytes_sent es) f.said_whole ∙ ap (λ xs. packets f.said ++ xs) s.said ∙ sym (packets_append f.said ts);
  said_sendable = sendable_append f.said ts f.said_sendable can;
  said_count = flushes_append f.said ts ∙ (let z = f.said_count in omega arith);
}

pub start_flow : Flow 0 []
start_flow = record { heard = []; heard_whole = decode_empty; heard_count = refl; said = []; said_whole = refl; said_sendable = refl; said_count = refl }

-- Aborts

and_false : (b : Bool) → (b && false) ≡ false
and_false true = refl
and_false false = refl

or_false : (a b : Bool) → (a || b) ≡ false → (a ≡ false) × (b ≡ false)
or_false true b e = let z : ◌≡◌ {A = ℕ} 0 1 = cc in absurd (omega arith)
or_false false b e = (refl, e)

both_false : (a b : Bool) → a ≡ false → b ≡ false → (a || b) ≡ false
both_false a b p q = ap (λ x. x || b) p ∙ q

not_abort : (op : Operation) (k : Call) (es : List Event) (h : Story) → is_abort (status_of_call k es h) ≡ false → aborts op k es h ≡ false
not_abort op k es h x = ap (λ b. is_for op (operation_of k h) && b) x ∙ and_false (is_for op (operation_of k h))

not_for : (op : Operation) (k : Call) (es : List Event) (h : Story) → is_for op (operation_of k h) ≡ false → aborts op k es h ≡ false
not_for op k es h x = ap (λ b. b && is_abort (status_of_call k es h)) x

cut_no_abort : (op : Operation) (k : Call) (es : List Event) (h : Story) (n : ℕ) → flushes_before k h ≡ n → Cut n es → aborts op k es h ≡ false
cut_no_abort op k es h n e c =
    not_abort op k es h (ap is_abort (ap (λ m. status_from Previous (behind_flushes m (decode (bytes_given es)).packets)) e ∙ no_status n Previous (decode (bytes_given es)).packets c))

told_abort : (k : Call) (es : List Event) (h : Story) (n : ℕ) (ts : List Pkt) (st : Status) → flushes_before k h ≡ n → Told n ts st es → is_abort (status_of_call k es h) ≡ is_abort (Some st)
told_abort k es h n ts st e t =
    ap is_abort
    (ap (λ m. status_from Previous (behind_flushes m (decode (bytes_given es)).packets)) e ∙ ap (λ (d : Decoded). status_from Previous (behind_flushes n d.packets)) t.sofar.heard ∙ t.status)
    ∙ t.alike

without_can : (op o : Operation) (m : ℕ) → holds (without_bit m (operation_place op)) (operation_place o) ≡ true → (holds m (operation_place o) ≡ true) × (same_operation o op ≡ false)
without_can op o m e =
    let p = and_parts (holds m (operation_place o)) (not (eqb (operation_place o) (operation_place op))) (sym (holds_without m (operation_place op) (operation_place o)) ∙ e) in
    (p.0, go op o p.1)
  where
    go : (op' o' : Operation) → not (eqb (operation_place o') (operation_place op')) ≡ true → same_operation o' op' ≡ false
    go Clean Clean h = let z : ◌≡◌ {A = ℕ} 0 1 = cc in absurd (omega arith)
    go Clean Smudge h = refl
    go Smudge Clean h = refl
    go Smudge Smudge h = let z : ◌≡◌ {A = ℕ} 0 1 = cc in absurd (omega arith)

-- One call more

abbrev Has : ℕ → Operation → Type 0
Has m op = holds m (operation_place op) ≡ true

grown : (r : Record) (h : Story) (k : Call) (es : List Event) (a : Answer) (m : ℕ) (o : Option Operation)
    → o ≡ open_after k (open_result h) a
    → ((op : Operation) → Has m op → (x : List ℕ) → has_named op (all_given h ++ (bytes_given es ++ x)) ≡ true)
    → ((op : Operation) → Has m op → aborted op h ≡ false)
    → ((op : Operation) → Has m op → aborts op k es h ≡ false)
    → stray_applies h ≡ 0 → stray_applies_in k es h ≡ 0
    → (is_fault a ≡ false → faulted h ≡ false → Flow 2 (episode k es a ∷ h))
    → Good (seated r m o) (episode k es a ∷ h)
grown r h k es a m o e nm ua na ns s f = record {
  same_reading = e;
  has_begun = refl;
  naming = λ op t x. ap (has_named op) (append_assoc (all_given h) (bytes_given es) x) ∙ nm op t x;
  unaborted = λ op t. both_false (aborts op k es h) (aborted op h) (na op t) (ua op t);
  no_stray = omega arith;
  flow = λ x. let y = or_false (is_fault a) (faulted h) x in f y.0 y.1;
}

-- before an exchange: at a first call its handshake is over (n is 2, c is 0), later nothing is said yet (n is 0, c is 2)
pub record Ready (r : Record) (h : Story) (k : Call) (n c : ℕ) (es : List Event) : Type 0 where
  pub idle : open_result h ≡ None
  pub same_reading : r.reading ≡ open_result h
  pub unaborted : (op : Operation) → Has r.capabilities.mask op → aborted op h ≡ false
  pub no_stray : stray_applies h ≡ 0
  pub flow : faulted h ≡ false → Flow c h
  pub total : n + c ≡ 2
  pub before : flushes_before k h ≡ n
  pub heard : List Pkt
  pub said : List Pkt
  pub sofar : Sofar heard said es
  pub ends : Ends n heard
  pub said_count : flushes_of said ≡ n
  pub said_sendable : all_sendable said ≡ true

-- what every send and read of the exchange keeps
pub record Firm (r : Record) (h : Story) (k : Call) (es : List Event) : Type 0 where
  pub naming : (op : Operation) → Has r.capabilities.mask op → (x : List ℕ) → has_named op (all_given h ++ (bytes_given es ++ x)) ≡ true
  pub stray_none : stray_applies_in k es h ≡ 0

-- the two kinds of exchange
pub record Exchanging (op : Operation) (k : Call) (h : Story) : Type 0 where
  pub lists_none : (a : Answer) → list_counts k a ≡ 0
  pub counts : (a : Answer) → exchange_counts k a ≡ one_if (is_settled a)
  pub results_none : (a : Answer) → result_counts k a ≡ 0
  pub opening : (b : Option Operation) (a : Answer) → open_after k b a ≡ opened op b a
  pub its_operation : operation_of k h ≡ Some op

pub applying : (k : Key) (op : Operation) (asked : Asked) (h : Story) → Exchanging op (apply k op asked) h
applying k op asked h = record { lists_none = λ a. refl; counts = λ a. refl; results_none = λ a. refl; opening = λ b a. refl; its_operation = refl }

pub fetching : (k : Key) (op : Operation) (path : List ℕ) (h : Story) → Exchanging op (fetch k op path) h
fetching k op path h = record { lists_none = λ a. refl; counts = λ a. refl; results_none = λ a. refl; opening = λ b a. refl; its_operation = refl }

module _ (r : Record) (h : Story) (op : Operation) (k : Call) (n c : ℕ) (start : List Event) (g : Ready r h k n c start) (x : Exchanging op k h)
    (out : List Pkt) (can : all_sendable out ≡ true) (two : flushes_of out ≡ 2) (es : List Event) (f : Firm r h k es) where
  m₀ : ℕ
  m₀ = r.capabilities.mask

  exchange_kept : (y : LineFault) → Cut n es → Good (seated r r.capabilities.mask None) (episode k es (fault y) ∷ h)
  exchange_kept y u =
      grown r h k es (fault y) r.capabilities.mask None (sym (x.opening (open_result h) (fault y) ∙ g.idle)) f.naming g.unaborted (λ o t. cut_no_abort o k es h n g.before u) g.no_stray f.stray_none
      (λ e. let z : ◌≡◌ {A = ℕ} 0 1 = cc in absurd (omega arith))

  -- a line fault
  pub exchange_fault : (y : LineFault) → Cut n es → FateGood Good r h k es (fault y) (after_fault r.capabilities.mask y)
  exchange_fault (Host Closed) u = tt
  exchange_fault (Host Broken) u = tt
  exchange_fault (Host other_fault) u = exchange_kept (Host other_fault) u
  exchange_fault (Packet e) u = exchange_kept (Packet e) u
  exchange_fault Marker u = tt
  exchange_fault (Text e) u = exchange_kept (Text e) u

  module _ (st : Status) (t : Told n (g.said ++ out) st es) where
    said_so : flushes_of (g.said ++ out) ≡ n + 2
    said_so = flushes_append g.said out ∙ (let b = g.said_count in omega (arith, two))

    all_can : all_sendable (g.said ++ out) ≡ true
    all_can = sendable_append g.said out g.said_sendable can

    -- settled by a status, and the record stays
    settled_good : (a : Answer) (m : ℕ) → is_settled a ≡ true → opened op (open_result h) a ≡ open_result h
        → ((o : Operation) → Has m o → Has r.capabilities.mask o) → ((o : Operation) → Has m o → aborts o k es h ≡ false)
        → Good (seated r m None) (episode k es a ∷ h)
    settled_good a m s o sub na =
        grown r h k es a m None (sym (x.opening (open_result h) a ∙ o ∙ g.idle)) (λ p q. f.naming p (sub p q)) (λ p q. g.unaborted p (sub p q)) na g.no_stray f.stray_none
        (λ _ e.
        let p2 = g.total in
        let p3 = x.lists_none a in
        let p4 = x.counts a ∙ ap one_if s in
        let p5 = x.results_none a in
        let p6 : some_count (open_result h) ≡ 0 = ap some_count g.idle in
        let p7 : some_count (open_after k (open_result h) a) ≡ 0 = ap some_count (x.opening (open_result h) a ∙ o ∙ g.idle) in
        flow_step c 2 h k es a t.heard (g.said ++ out) (g.flow e) t.sofar all_can (let p1 = t.count in omega arith) (let p1 = said_so in omega arith))

    result_good : (p : ℕ) → ((o : Operation) → Has r.capabilities.mask o → aborts o k es h ≡ false) → Good (seated r r.capabilities.mask (Some op)) (episode k es (result p) ∷ h)
    result_good p na =
        grown r h k es (result p) r.capabilities.mask (Some op) (sym (x.opening (open_result h) (result p))) f.naming g.unaborted na g.no_stray f.stray_none
        (λ _ e.
        let p2 = g.total in
        let p3 = x.lists_none (result p) in
        let p4 = x.counts (result p) in
        let p5 = x.results_none (result p) in
        let p6 : some_count (open_result h) ≡ 0 = ap some_count g.idle in
        let p7 : some_count (open_after k (open_result h) (result p)) ≡ 1 = ap some_count (x.opening (open_result h) (result p)) in
        flow_step c 2 h k es (result p) t.heard (g.said ++ out) (g.flow e) t.sofar all_can (let p1 = t.count in omega arith) (let p1 = said_so in omega arith))

    no_abort : is_abort (Some st) ≡ false → (m : ℕ) (o : Operation) → Has m o → aborts o k es h ≡ false
    no_abort e m o _ = not_abort o k es h (told_abort k es h n (g.said ++ out) st g.before t ∙ e)

    abort_other : (o : Operation) → Has (without_bit r.capabilities.mask (operation_place op)) o → aborts o k es h ≡ false
    abort_other o q = not_for o k es h (ap (is_for o) x.its_operation ∙ (without_can op o r.capabilities.mask q).1)

  -- the status of an exchange; late is what `delayed` comes to
  pub exchange_status : (p : ℕ) (late : Status → Verdict) → ((i : ℕ) → Told n (g.said ++ out) (Named Delayed i) es → FateGood Good r h k es (late (Named Delayed i)).answer (late (Named Delayed i)).fate)
      → (st : Status) → Told n (g.said ++ out) st es
      → FateGood Good r h k es (after_exchange p op r.capabilities.mask late st).answer (after_exchange p op r.capabilities.mask late st).fate
  exchange_status p late on Previous t = tt
  exchange_status p late on Unset t = tt
  exchange_status p late on (Named Success i) t = result_good (Named Success i) t p (no_abort (Named Success i) t refl r.capabilities.mask)
  exchange_status p late on (Named Delayed i) t = on i t
  exchange_status p late on (Named Abort i) t =
      settled_good (Named Abort i) t (failed (Named Abort i)) (without_bit r.capabilities.mask (operation_place op)) refl refl (λ o q. (without_can op o r.capabilities.mask q).0) (abort_other (Named Abort i) t)
  exchange_status p late on (Named Error i) t =
      settled_good (Named Error i) t (failed (Named Error i)) r.capabilities.mask refl refl (λ o q. q) (no_abort (Named Error i) t refl r.capabilities.mask)
  exchange_status p late on (Named Other i) t = tt

  -- delayed, where it was allowed or not
  pub delayed_good : (b : Bool) (i : ℕ) → Told n (g.said ++ out) (Named Delayed i) es
      → FateGood Good r h k es (delayed_if b r.capabilities.mask (Named Delayed i)).answer (delayed_if b r.capabilities.mask (Named Delayed i)).fate
  delayed_good true i t = settled_good (Named Delayed i) t delayed r.capabilities.mask refl refl (λ o q. q) (no_abort (Named Delayed i) t refl r.capabilities.mask)
  delayed_good false i t = settled_good (Named Delayed i) t unasked r.capabilities.mask refl refl (λ o q. q) (no_abort (Named Delayed i) t refl r.capabilities.mask)

-- an apply of an operation that the process cannot do
pub passed_good : (r : Record) (h : Story) (key : Key) (op : Operation) (asked : Asked) (n c : ℕ) (es : List Event) → Ready r h (apply key op asked) n c es → Firm r h (apply key op asked) es
    → Good (seated r r.capabilities.mask r.reading) (episode (apply key op asked) es passed ∷ h)
passed_good r h key op asked n c es g f =
    let k = apply key op asked in
    grown r h k es passed r.capabilities.mask r.reading g.same_reading f.naming g.unaborted
    (λ o t. cut_no_abort o k es h n g.before (cut_of n g.heard g.said es g.sofar (let x = g.ends.count in omega arith)))
    g.no_stray f.stray_none
    (λ _ e.
    let p2 = g.total in
    flow_step c 2 h k es passed g.heard g.said (g.flow e) g.sofar g.said_sendable (let p1 = g.ends.count in omega arith) (let p1 = g.said_count in omega arith))

-- a listing
module _ (r : Record) (h : Story) (g : Good r h) (idle : r.reading ≡ None) (key : Key) (rows room : ℕ) (es : List Event) where
  listing_stays : (a : Answer) → (is_fault a ≡ false → faulted h ≡ false → Flow 2 (episode (list key rows room) es a ∷ h)) → Good (seated r r.capabilities.mask None) (episode (list key rows room) es a ∷ h)
  listing_stays a f =
      grown r h (list key rows room) es a r.capabilities.mask None (sym idle ∙ g.same_reading) (λ op t x. g.naming op t (bytes_given es ++ x)) g.unaborted (λ op t. refl) g.no_stray refl f

  faulty : (y : LineFault) → Good (seated r r.capabilities.mask None) (episode (list key rows room) es (fault y) ∷ h)
  faulty y = listing_stays (fault y) (λ e. let z : ◌≡◌ {A = ℕ} 0 1 = cc in absurd (omega arith))

  pub listing_fault : (y : LineFault) → FateGood Good r h (list key rows room) es (fault y) (after_fault r.capabilities.mask y)
  listing_fault (Host Closed) = tt
  listing_fault (Host Broken) = tt
  listing_fault (Host other_fault) = faulty (Host other_fault)
  listing_fault (Packet e) = faulty (Packet e)
  listing_fault Marker = tt
  listing_fault (Text e) = faulty (Text e)

  answered : (st : Status) → Told 1 list_request st es → (a : Answer) → list_counts (list key rows room) a ≡ 1 → Good (seated r r.capabilities.mask None) (episode (list key rows room) es a ∷ h)
  answered st t a l =
      listing_stays a
      (λ _ e. flow_step 2 2 h (list key rows room) es a t.heard list_request (g.flow e) t.sofar refl (let p1 = t.count in omega (arith, l))
      (let p1 : flushes_of list_request ≡ 1 = refl in omega (arith, l)))

  listed_counts : (b : Bool) (c : Counts) → list_counts (list key rows room) (cond b (full c) (paths c)) ≡ 1
  listed_counts true c = refl
  listed_counts false c = refl

  pub listing_status : (counts : Counts) (st : Status) → Told 1 list_request st es
      → FateGood Good r h (list key rows room) es (after_listing r.capabilities.mask counts st).answer (after_listing r.capabilities.mask counts st).fate
  listing_status counts Previous t = tt
  listing_status counts Unset t = tt
  listing_status counts (Named Success i) t = answered (Named Success i) t (listed counts) (listed_counts counts.full counts)
  listing_status counts (Named Delayed i) t = tt
  listing_status counts (Named Abort i) t = answered (Named Abort i) t (failed (Named Abort i)) refl
  listing_status counts (Named Error i) t = answered (Named Error i) t (failed (Named Error i)) refl
  listing_status counts (Named Other i) t = tt

-- a read of a result
module _ (r : Record) (h : Story) (op : Operation) (g : Good r h) (reading : r.reading ≡ Some op) (p : ℕ) (es : List Event) where
  open_here : open_result h ≡ Some op
  open_here = sym g.same_reading ∙ reading

  pub read_fault : (y : LineFault) → Cut 1 es → Good (seated r r.capabilities.mask None) (episode (read p) es (fault y) ∷ h)
  read_fault y u =
      grown r h (read p) es (fault y) r.capabilities.mask None refl (λ o t x. g.naming o t (bytes_given es ++ x)) g.unaborted (λ o t. cut_no_abort o (read p) es h 1 refl u) g.no_stray refl
      (λ e. let z : ◌≡◌ {A = ℕ} 0 1 = cc in absurd (omega arith))

  over_good : (st : Status) → Told 1 [] st es → (a : Answer) (m : ℕ) → result_counts (read p) a ≡ 1 → None ≡ open_after (read p) (open_result h) a
      → ((o : Operation) → Has m o → Has r.capabilities.mask o) → ((o : Operation) → Has m o → aborts o (read p) es h ≡ false)
      → Good (seated r m None) (episode (read p) es a ∷ h)
  over_good st t a m x z sub na =
      grown r h (read p) es a m None z (λ o q y. g.naming o (sub o q) (bytes_given es ++ y)) (λ o q. g.unaborted o (sub o q)) na g.no_stray refl
      (λ _ e.
      let p2 : some_count (open_result h) ≡ 1 = ap some_count open_here in
      let p3 : some_count (open_after (read p) (open_result h) a) ≡ 0 = ap some_count (sym z) in
      flow_step 2 2 h (read p) es a t.heard [] (g.flow e) t.sofar refl (let p1 = t.count in omega (arith, x)) (omega (arith, x)))

  not_this : (st : Status) → Told 1 [] st es → is_abort (Some st) ≡ false → (o : Operation) → Has r.capabilities.mask o → aborts o (read p) es h ≡ false
  not_this st t e o _ = not_abort o (read p) es h (told_abort (read p) es h 1 [] st refl t ∙ e)

  final_good : (st : Status) → Told 1 [] st es → FateGood Good r h (read p) es (after_final op r.capabilities.mask st).answer (after_final op r.capabilities.mask st).fate
  final_good Previous t = over_good Previous t finished r.capabilities.mask refl refl (λ o q. q) (not_this Previous t refl)
  final_good Unset t = over_good Unset t (unfinished Unset) r.capabilities.mask refl refl (λ o q. q) (not_this Unset t refl)
  final_good (Named Success i) t = over_good (Named Success i) t finished r.capabilities.mask refl refl (λ o q. q) (not_this (Named Success i) t refl)
  final_good (Named Delayed i) t = over_good (Named Delayed i) t (unfinished (Named Delayed i)) r.capabilities.mask refl refl (λ o q. q) (not_this (Named Delayed i) t refl)
  final_good (Named Abort i) t =
      over_good (Named Abort i) t (unfinished (Named Abort i)) (without_bit r.capabilities.mask (operation_place op)) refl refl (λ o q. (without_can op o r.capabilities.mask q).0)
      (λ o q. not_for o (read p) es h (ap (is_for o) open_here ∙ (without_can op o r.capabilities.mask q).1))
  final_good (Named Error i) t = over_good (Named Error i) t (unfinished (Named Error i)) r.capabilities.mask refl refl (λ o q. q) (not_this (Named Error i) t refl)
  final_good (Named Other i) t = over_good (Named Other i) t (unfinished (Named Other i)) r.capabilities.mask refl refl (λ o q. q) (not_this (Named Other i) t refl)

  pub piece_good : (x : Piece) → Pieced x es → FateGood Good r h (read p) es (after_piece op r.capabilities.mask x).answer (after_piece op r.capabilities.mask x).fate
  piece_good (piece part) s =
      grown r h (read p) es (payload part) r.capabilities.mask (Some op) (sym open_here) (λ o t x. g.naming o t (bytes_given es ++ x)) g.unaborted
      (λ o t. cut_no_abort o (read p) es h 1 refl (cut_of 1 (line part ∷ []) [] es s (omega arith))) g.no_stray refl
      (λ _ e. flow_step 2 2 h (read p) es (payload part) (line part ∷ []) [] (g.flow e) s refl (omega arith) (omega arith))
  piece_good (final st) t = final_good st t
