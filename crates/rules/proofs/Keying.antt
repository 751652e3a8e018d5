-- The key tells which processes run.
use Rattle.std.proofs.Common.{◌≡◌, ℕ, Bool, true, false, cond, not, ◌&&◌, List, [], ◌∷◌, ◌++◌, map, length, Some, None, Ok, Err, codes, Option, Result, sym, refl, ap, ◌∙◌, subst, arith}
use Rattle.std.specs.Prelude.{is_some, ◌==◌}
use Rattle.std.specs.List.{list_any}
use Rattle.std.proofs.lemmas.List.{append_assoc, append-nil}
use Rattle.std.proofs.lemmas.Bool.{and_parts, eqb-true, le-leb, lt-leb}
use Rattle.packetline.specs.Packets.{Pkt, decode, flushes_of}
use Rattle.host.specs.declared.host.How.TheVariants.{Close}
use Rattle.host.specs.declared.fault.Fault.{Fault}
use Rattle.host.specs.declared.fault.Fault.TheVariants.{Closed, Broken, Other as other_fault}
use Rattle.host.specs.declared.fault.LineFault.{LineFault}
use Rattle.host.specs.declared.fault.LineFault.TheVariants.{Host, Packet, Marker, Text}
use Rattle.host.specs.Worlds.{live, World}
use Rattle.host.specs.Acts.{can_start}
use Rattle.host.specs.Talk.{Event, bytes_given, Wire, wire, Got, got, lost}
use Rattle.process.specs.declared.status.Word.TheVariants.{Success, Delayed, Abort, Error, Other}
use Rattle.process.specs.declared.status.Status.{Status}
use Rattle.process.specs.declared.status.Status.TheVariants.{Previous, Unset, Named}
use Rattle.process.specs.Statuses.{first}
use Rattle.process.proofs.Tellings.{flushes_append}
use Rattle.handshake.specs.Handshakes.{Shaken, hello, desired}
use Rattle.client.specs.Listings.{Counts, listing, named_in}
use Rattle.client.specs.Results.{Piece, payload as piece, final, read_piece}
use Rattle.records.specs.declared.key.Key.{Key}
use Rattle.records.specs.declared.operation.Operation.{Operation}
use Rattle.records.specs.declared.record.Record.{Record}
use Rattle.records.specs.Keys.{key_bytes, same_key}
use Rattle.records.specs.Places.{Place}
use Rattle.records.specs.Records.{held, lookup, is_reading, reading_by, without}
use Rattle.rules.specs.Names.{desired_names, can_do, can_delay}
use Rattle.rules.specs.Calls.{Asked, Call, apply, fetch, list, read, give_up, close_all, may_delay, is_within, needs_areas, Turn}
use Rattle.rules.specs.Answers.{Answer, passed, done, fault, refused}
use Rattle.rules.specs.Steps.{asked_lines, request_for, exchange, Fate, stays, leaves, Verdict, verdict, after_fault, after_exchange, delayed_if, never_delayed, after_listing, counted, after_piece, result_lost, State, state, Deed, starts, talks, ends, Outcome, outcome, refuse, Seat, its_seat, new_seat, seated, settle_by, settle, conclude, line_to, apply_at, newcomer_record, started, after_handshake, greeting, first_of_all, has_free, begin, unless_reading, apply_to, fetch_at, list_at, fetch_from, list_from, read_at, read_from, give_up_at, closed, closings, close, act, step}
use Rattle.rules.specs.Stories.{Telling, told, cut, telling, behind_flushes}
use Rattle.rules.specs.Lives.{Book, Ledger, Life, turn, run}
use Rattle.rules.specs.Key.{ended_by, seen_in, seen_of, seen_calls, Afterwards, dies, lives, reads, after_telling, after_call, afterwards, Runner, is_running, is_read_from, others, settled, key_step, key, Keyed, KeyStands}
use Rattle.rules.proofs.Totals.{found_in, none_held}
use Rattle.rules.proofs.Kept.{Always, weaken}
use Rattle.rules.proofs.Steps.{tales, Holds, step_stands, begins_holds, stands}
use Rattle.rules.proofs.Talks.{Sofar, nothing, Cut, Greeted, MaybeGreeted, greeting_told}
use Rattle.rules.proofs.Standing.{Good}
use Rattle.rules.proofs.Keeping.{good_keeps}
use Rattle.rules.proofs.Tellings.{given_by, left_by, Tells, TellsFirst, TellsNone, exchange_tells, ListsFirst, ListsNone, listing_tells, is_piece, PieceTells, NoPieceTells, piece_tells}
use Rattle.rules.proofs.Runners.{runner_of, Matches, any_same, runs_open, once_each, few_runners, none_found, some_found, emptied, Fits, fits_known, fits_new}

-- One talk: what the key makes of it is the record's fate.

abbrev fate_as : Fate → Afterwards
fate_as (stays m None) = lives
fate_as (stays m (Some op)) = reads
fate_as (leaves how) = dies

abbrev Judges : Bool → Call → List Event → Answer → Fate → Type 0
Judges known c es a f = afterwards known c (decode (bytes_given es)).packets (ended_by a) ≡ fate_as f

abbrev TalkJudged : {A : Type 0} → Bool → Call → Got A → (A → Wire → Verdict) → (LineFault → Fate) → Type 0
TalkJudged known c g right wrong = Always (λ x u. Judges known c u.events (right x u).answer (right x u).fate) (λ f u. Judges known c u.events (fault f) (wrong f)) g

after_lost : (c : Call) (m : ℕ) (f : LineFault) → after_telling (left_by f) (ended_by (fault f)) c ≡ fate_as (after_fault m f)
after_lost c m (Host Closed) = refl
after_lost c m (Host Broken) = refl
after_lost c m (Host other_fault) = refl
after_lost c m (Packet e) = refl
after_lost c m Marker = refl
after_lost c m (Text e) = refl

-- behind packets gs the key judges by what is told
abbrev Opens : Bool → Call → List Pkt → Type 0
Opens known c gs = (hs : List Pkt) (f : Option Fault) → afterwards known c (gs ++ hs) f ≡ after_telling (telling Previous hs) f c

judged_by : (known : Bool) (c : Call) (gs : List Pkt) (t : Telling) (es : List Event) (a : Answer) (f : Fate) → Opens known c gs → Tells gs t es → after_telling t (ended_by a) c ≡ fate_as f
    → Judges known c es a f
judged_by known c gs t es a f o x e =
    ap (λ ps. afterwards known c ps (ended_by a)) x.given ∙ o x.after (ended_by a) ∙ ap (λ y. after_telling y (ended_by a) c) x.tells ∙ e

-- the statuses of a kind of exchange
abbrev Rightly : Call → (Status → Verdict) → Type 0
Rightly c right = (raw : Status) → after_telling (told raw) (ended_by (right (first raw)).answer) c ≡ fate_as (right (first raw)).fate

exchange_judged : (known : Bool) (c : Call) (gs ss lines : List Pkt) (content : List ℕ) (v : Wire) (right : Status → Verdict) (m : ℕ) → Sofar gs ss v.events → Opens known c gs → Rightly c right
    → TalkJudged known c (exchange lines content v) (λ s _. right s) (after_fault m)
exchange_judged known c gs ss lines content v right m s o h =
    weaken (TellsFirst gs) (λ x u. Judges known c u.events (right x).answer (right x).fate) (TellsNone gs) (λ f u. Judges known c u.events (fault f) (after_fault m f)) (exchange lines content v)
    (exchange_tells gs ss lines content v s)
    (λ x u (raw, t, e).
    judged_by known c gs (told raw) u.events (right x).answer (right x).fate o t (subst (λ y. after_telling (told raw) (ended_by (right y).answer) c ≡ fate_as (right y).fate) (sym e) (h raw)))
    (λ f u t. judged_by known c gs (left_by f) u.events (fault f) (after_fault m f) o t (after_lost c m f))

apply_rightly : (k : Key) (op : Operation) (a : Asked) (p m : ℕ) (allowed : Bool) → Rightly (apply k op a) (after_exchange p op m (delayed_if allowed m))
apply_rightly k op a p m allowed Previous = refl
apply_rightly k op a p m allowed Unset = refl
apply_rightly k op a p m allowed (Named Success n) = refl
apply_rightly k op a p m allowed (Named Delayed n) = refl
apply_rightly k op a p m allowed (Named Abort n) = refl
apply_rightly k op a p m allowed (Named Error n) = refl
apply_rightly k op a p m allowed (Named Other n) = refl

fetch_rightly : (k : Key) (op : Operation) (path : List ℕ) (p m : ℕ) → Rightly (fetch k op path) (after_exchange p op m never_delayed)
fetch_rightly k op path p m Previous = refl
fetch_rightly k op path p m Unset = refl
fetch_rightly k op path p m (Named Success n) = refl
fetch_rightly k op path p m (Named Delayed n) = refl
fetch_rightly k op path p m (Named Abort n) = refl
fetch_rightly k op path p m (Named Error n) = refl
fetch_rightly k op path p m (Named Other n) = refl

list_rightly : (k : Key) (rows room m : ℕ) (counts : Counts) → Rightly (list k rows room) (after_listing m counts)
list_rightly k rows room m counts Previous = refl
list_rightly k rows room m counts Unset = refl
list_rightly k rows room m counts (Named Success n) = refl
list_rightly k rows room m counts (Named Delayed n) = refl
list_rightly k rows room m counts (Named Abort n) = refl
list_rightly k rows room m counts (Named Error n) = refl
list_rightly k rows room m counts (Named Other n) = refl

listing_judged : (k : Key) (rows room m : ℕ) (v : Wire) → Sofar [] [] v.events
    → TalkJudged true (list k rows room) (listing v) (λ s u. after_listing m (counted rows room (named_in (bytes_given u.events))) s) (after_fault m)
listing_judged k rows room m v s =
    let c = list k rows room in
    let right : Status → Wire → Verdict = λ x u. after_listing m (counted rows room (named_in (bytes_given u.events))) x in
    weaken ListsFirst (λ x u. Judges true c u.events (right x u).answer (right x u).fate) ListsNone (λ f u. Judges true c u.events (fault f) (after_fault m f)) (listing v) (listing_tells v s)
    (λ x u (raw, t, e).
    ap (λ y. after_telling y (ended_by (right x u).answer) c) t
    ∙ subst (λ y. after_telling (told raw) (ended_by (right y u).answer) c ≡ fate_as (right y u).fate) (sym e) (list_rightly k rows room m (counted rows room (named_in (bytes_given u.events))) raw))
    (λ f u t. ap (λ y. after_telling y (ended_by (fault f)) c) t ∙ after_lost c m f)

piece_rightly : (op : Operation) (m : ℕ) (x : Piece) → cond (is_piece x) reads lives ≡ fate_as (after_piece op m x).fate
piece_rightly op m (piece l) = refl
piece_rightly op m (final Previous) = refl
piece_rightly op m (final Unset) = refl
piece_rightly op m (final (Named Success n)) = refl
piece_rightly op m (final (Named Delayed n)) = refl
piece_rightly op m (final (Named Abort n)) = refl
piece_rightly op m (final (Named Error n)) = refl
piece_rightly op m (final (Named Other n)) = refl

read_judged : (p : ℕ) (op : Operation) (m : ℕ) (v : Wire) → Sofar [] [] v.events → TalkJudged true (read p) (read_piece v) (λ x _. after_piece op m x) (result_lost m)
read_judged p op m v s =
    weaken PieceTells (λ x u. Judges true (read p) u.events (after_piece op m x).answer (after_piece op m x).fate) NoPieceTells (λ f u. Judges true (read p) u.events (fault f) (result_lost m f)) (read_piece v)
    (piece_tells v s)
    (λ x u t. ap (λ b. cond b reads lives) t ∙ piece_rightly op m x)
    (λ f u t. ap (λ b. cond b reads lives) t)

seen_starts : (f : Option Fault) (command : List ℕ) (n : Option ℕ) (ds : List Deed) → seen_in f (ds ++ starts command n ∷ []) ≡ seen_in f ds
seen_starts f command n [] = refl
seen_starts f command n (starts k x ∷ ds) = seen_starts f command n ds
seen_starts f command n (talks p es bytes ∷ ds) = refl
seen_starts f command n (ends p how ∷ ds) = seen_starts f command n ds

seen_closings : (f : Option Fault) (rs : List Record) (ds : List Deed) → seen_in f (closings rs ++ ds) ≡ seen_in f ds
seen_closings f [] ds = refl
seen_closings f (r ∷ rs) ds = ap (seen_in f) (append_assoc (closings rs) _ ds) ∙ seen_closings f rs _

-- a process that a call meets
met_opens : (k : Key) (op : Operation) (a : Asked) (x : Shaken) (es : List Event) (g : Greeted x es) → Opens false (apply k op a) g.heard
met_opens k op a x es g hs f =
    let n = flushes_append g.heard hs in
    let c = g.ends.count in
    ap (λ b. cond b (after_call (apply k op a) (behind_flushes 2 (g.heard ++ hs)) f) dies) (le-leb 2 (flushes_of (g.heard ++ hs)) (omega arith))
    ∙ ap (λ ps. after_telling (telling Previous ps) f (apply k op a)) (g.ends.over hs)

unmet : (c : Call) (es : List Event) (f : Option Fault) → Cut 1 es → afterwards false c (decode (bytes_given es)).packets f ≡ dies
unmet c es f h =
    ap (λ b. cond b (after_call c (behind_flushes 2 (decode (bytes_given es)).packets) f) dies) (lt-leb 2 (flushes_of (decode (bytes_given es)).packets) (omega (arith, h)))

outside_needs : (c : Call) → is_within c ≡ false → needs_areas c ≡ true
outside_needs (apply k op a) e = refl
outside_needs (fetch k op path) e = refl
outside_needs (list k rows room) e = refl
outside_needs (read p) e = refl
outside_needs (give_up p) e = let z : ◌≡◌ {A = ℕ} 0 1 = cc in absurd (omega arith)
outside_needs close_all e = let z : ◌≡◌ {A = ℕ} 0 1 = cc in absurd (omega arith)

-- what holds of a table, with the stories
abbrev Table : State → Book → Ledger → Type 0
Table s b l = Holds Good s b l

-- One call: the runners go on matching the records.

module _ (places : ℕ) where
  abbrev Follows : Call → List Runner → Outcome → Type 0
  Follows c rs o = Matches places (key_step c (seen_of o) rs) o.after.table

  first_follows : (c : Call) (rs : List Runner) (command : List ℕ) (n : Option ℕ) (o : Outcome) → Follows c rs o → Follows c rs (first_of_all (starts command n) o)
  first_follows c rs command n o m = subst (λ x. Matches places (key_step c x rs) o.after.table) (sym (seen_starts (ended_by o.answer) command n o.deeds)) m

  module _ (t : Turn) (w : World) (seat : Seat) (c : Call) (rs : List Runner) (known : Bool) (fits : Fits places rs known seat) where
    settle_follows : (v : Wire) (a : Answer) (f : Fate) → Judges known c v.events a f → Follows c rs (settle_by t w seat v a f)
    settle_follows v a f e = go f e
      where
        placed : (g : Fate) → Judges known c v.events a g → (ps : List Place) → Matches places (settled seat.of.process (fate_as g) rs) ps
            → Matches places (settled seat.of.process (afterwards (is_running seat.of.process rs) c (decode (bytes_given v.events)).packets (ended_by a)) rs) ps
        placed g q ps m =
            subst (λ y. Matches places (settled seat.of.process y rs) ps) (sym (ap (λ b. afterwards b c (decode (bytes_given v.events)).packets (ended_by a)) fits.whether ∙ q)) m

        go : (g : Fate) → Judges known c v.events a g → Follows c rs (settle_by t w seat v a g)
        go (stays m None) q = placed (stays m None) q (seat.holding (seated seat.of m None)) (fits.back m None)
        go (stays m (Some op)) q = placed (stays m (Some op)) q (seat.holding (seated seat.of m (Some op))) (fits.back m (Some op))
        go (leaves how) q = placed (leaves how) q seat.free fits.out

    conclude_follows : {A : Type 0} (g : Got A) (right : A → Wire → Verdict) (wrong : LineFault → Fate) → TalkJudged known c g right wrong → Follows c rs (conclude t w seat g right wrong)
    conclude_follows (got x v) right wrong h = settle_follows v (right x v).answer (right x v).fate h
    conclude_follows (lost f v) right wrong h = settle_follows v (fault f) (wrong f) h

  apply_follows : (t : Turn) (w : World) (seat : Seat) (v : Wire) (k : Key) (op : Operation) (a : Asked) (rs : List Runner) (known : Bool) (gs ss : List Pkt) → Fits places rs known seat → seat.of.reading ≡ None
      → Sofar gs ss v.events → Opens known (apply k op a) gs → Follows (apply k op a) rs (apply_at t w seat v op a)
  apply_follows t w seat v k op a rs known gs ss fits idle s o = go (can_do op seat.of.capabilities)
    where
      go : (z : Bool) → Follows (apply k op a) rs (cond z
          (conclude t w seat (exchange (request_for op a.rela_path (asked_lines a (may_delay a.delay && can_delay seat.of.capabilities))) a.content v)
          (λ x _. after_exchange seat.of.process op seat.of.capabilities.mask (delayed_if (may_delay a.delay && can_delay seat.of.capabilities) seat.of.capabilities.mask) x) (after_fault seat.of.capabilities.mask))
          (settle t w seat v (verdict passed (stays seat.of.capabilities.mask seat.of.reading))))
      go true =
          conclude_follows t w seat (apply k op a) rs known fits _ _ _
          (exchange_judged known (apply k op a) gs ss (request_for op a.rela_path (asked_lines a (may_delay a.delay && can_delay seat.of.capabilities))) a.content v _ seat.of.capabilities.mask s o
          (apply_rightly k op a seat.of.process seat.of.capabilities.mask (may_delay a.delay && can_delay seat.of.capabilities)))
      go false =
          settle_follows t w seat (apply k op a) rs known fits v passed (stays seat.of.capabilities.mask seat.of.reading)
          (judged_by known (apply k op a) gs cut v.events passed (stays seat.of.capabilities.mask seat.of.reading) o
          (record { after = []; given = given_by gs ss v.events s ∙ sym (append-nil gs); tells = refl })
          (ap (λ x. fate_as (stays seat.of.capabilities.mask x)) (sym idle)))

  module _ (s : State) (b : Book) (l : Ledger) (v : Table s b l) (rs : List Runner) (m : Matches places rs s.table) where
    seat_new : (t : Turn) (k : Key) (n x : ℕ) → has_free s.table ≡ true → Fits places rs false (new_seat s.table t.newcomer (newcomer_record k (length s.world.procs) n x))
    seat_new t k n x free = fits_new s (tales b l) v places rs m t.newcomer (newcomer_record k (length s.world.procs) n x) free refl

    meeting_follows : (t : Turn) (k : Key) (op : Operation) (a : Asked) → has_free s.table ≡ true → (g : Got (Result Shaken ℕ)) → Always (λ r u. MaybeGreeted r u.events) (λ f u. Cut 1 u.events) g
        → Follows (apply k op a) rs (after_handshake t s k op a g)
    meeting_follows t k op a free (got (Ok x) u) h =
        apply_follows t (started t s.world) (new_seat s.table t.newcomer (newcomer_record k (length s.world.procs) x.version x.mask)) u k op a rs false h.heard
        (hello (codes "git-filter") (2 ∷ []) ++ desired desired_names) (seat_new t k x.version x.mask free) refl h.sofar (met_opens k op a x u.events h)
    meeting_follows t k op a free (got (Err n) u) h =
        settle_follows t (started t s.world) (new_seat s.table t.newcomer (newcomer_record k (length s.world.procs) 0 0)) (apply k op a) rs false (seat_new t k 0 0 free) u (refused n) (leaves Close)
        (unmet (apply k op a) u.events None h)
    meeting_follows t k op a free (lost f u) h =
        settle_follows t (started t s.world) (new_seat s.table t.newcomer (newcomer_record k (length s.world.procs) 0 0)) (apply k op a) rs false (seat_new t k 0 0 free) u (fault f) (leaves Close)
        (unmet (apply k op a) u.events (ended_by (fault f)) h)

    begin_follows : (capacity : ℕ) (t : Turn) (k : Key) (op : Operation) (a : Asked) → Follows (apply k op a) rs (begin capacity t s k op a)
    begin_follows capacity t k op a = go (has_free s.table) (can_start capacity s.world (key_bytes k)) refl
      where
        go : (y z : Bool) → has_free s.table ≡ y → Follows (apply k op a) rs (cond y
            (cond z
            (first_of_all (starts (key_bytes k) (Some (length s.world.procs))) (after_handshake t s k op a (greeting (wire (live t.newcomer) t.later []))))
            (outcome (refused 10) s (starts (key_bytes k) None ∷ [])))
            (refuse 6 s))
        go false z e = m
        go true false e = m
        go true true e =
            first_follows (apply k op a) rs (key_bytes k) (Some (length s.world.procs)) (after_handshake t s k op a (greeting (wire (live t.newcomer) t.later [])))
            (meeting_follows t k op a e (greeting (wire (live t.newcomer) t.later [])) (greeting_told (wire (live t.newcomer) t.later []) refl))

    -- a known record that is not reading
    unless_follows : (c : Call) (r : Record) (o : Outcome) → Follows c rs (refuse 4 s) → (r.reading ≡ None → Follows c rs o) → Follows c rs (unless_reading s r o)
    unless_follows c r o refuses on = go r.reading refl
      where
        go : (x : Option Operation) → r.reading ≡ x → Follows c rs (cond (is_some x) (refuse 4 s) o)
        go None e = on e
        go (Some op) e = refuses

    apply_to_follows : (capacity : ℕ) (t : Turn) (k : Key) (op : Operation) (a : Asked) (o : Option Record) → lookup s.table k ≡ o → Follows (apply k op a) rs (apply_to capacity t s k op a o)
    apply_to_follows capacity t k op a None e = begin_follows capacity t k op a
    apply_to_follows capacity t k op a (Some r) e =
        unless_follows (apply k op a) r (apply_at t s.world (its_seat s r) (line_to t s.world r) op a) m
        (λ idle.
        apply_follows t s.world (its_seat s r) (line_to t s.world r) k op a rs true [] [] (fits_known s (tales b l) v places rs m r (found_in (λ x. same_key x.key k) s.table r e).0) idle nothing (λ hs f. refl))

    fetch_follows : (t : Turn) (k : Key) (op : Operation) (path : List ℕ) (o : Option Record) → lookup s.table k ≡ o → Follows (fetch k op path) rs (fetch_from t s op path o)
    fetch_follows t k op path None e = m
    fetch_follows t k op path (Some r) e =
        unless_follows (fetch k op path) r (fetch_at t s op path r) m
        (λ idle.
        conclude_follows t s.world (its_seat s r) (fetch k op path) rs true (fits_known s (tales b l) v places rs m r (found_in (λ x. same_key x.key k) s.table r e).0) _ _ _
        (exchange_judged true (fetch k op path) [] [] (request_for op path []) [] (line_to t s.world r) (after_exchange r.process op r.capabilities.mask never_delayed) r.capabilities.mask nothing (λ hs f. refl)
        (fetch_rightly k op path r.process r.capabilities.mask)))

    list_follows : (t : Turn) (k : Key) (rows room : ℕ) (o : Option Record) → lookup s.table k ≡ o → Follows (list k rows room) rs (list_from t s rows room o)
    list_follows t k rows room None e = m
    list_follows t k rows room (Some r) e =
        unless_follows (list k rows room) r (list_at t s rows room r) m
        (λ idle.
        conclude_follows t s.world (its_seat s r) (list k rows room) rs true (fits_known s (tales b l) v places rs m r (found_in (λ x. same_key x.key k) s.table r e).0) _ _ _
        (listing_judged k rows room r.capabilities.mask (line_to t s.world r) nothing))

    read_follows : (t : Turn) (p : ℕ) (o : Option Record) → reading_by s.table p ≡ o → Follows (read p) rs (read_from t s o)
    read_follows t p None e = m
    read_follows t p (Some r) e = go r.reading
      where
        go : (x : Option Operation) → Follows (read p) rs (read_at t s r x)
        go None = m
        go (Some op) =
            conclude_follows t s.world (its_seat s r) (read p) rs true (fits_known s (tales b l) v places rs m r (found_in (λ x. x.process == p && is_reading x) s.table r e).0) _ _ _
            (read_judged p op r.capabilities.mask (line_to t s.world r) nothing)

    -- what is given up
    read_known : (p : ℕ) → is_read_from p rs ≡ list_any (λ r. r.process == p && is_reading r) (held s.table)
    read_known p = any_same places rs s.table m (λ x. x.process == p && x.reading)

    give_up_follows : (t : Turn) (p : ℕ) (o : Option Record) → reading_by s.table p ≡ o → Follows (give_up p) rs (give_up_at t s o)
    give_up_follows t p None e =
        subst (λ z. Matches places (cond z (others p rs) rs) s.table) (sym (read_known p ∙ none_found (λ r. r.process == p && is_reading r) s.table e)) m
    give_up_follows t p (Some r) e =
        let i = found_in (λ x. x.process == p && is_reading x) s.table r e in
        let same : r.process ≡ p = eqb-true r.process p (and_parts (r.process == p) (is_reading r) i.1).0 in
        subst (λ z. Matches places (cond z (others p rs) rs) (without s.table r.key)) (sym (read_known p ∙ some_found (λ x. x.process == p && is_reading x) s.table r e))
        (subst (λ n. Matches places (others n rs) (without s.table r.key)) same (fits_known s (tales b l) v places rs m r i.0).out)

    close_follows : (t : Turn) → Follows close_all rs (close t s)
    close_follows t = go (list_any is_reading (held s.table)) refl
      where
        go : (z : Bool) → list_any is_reading (held s.table) ≡ z → Follows close_all rs (cond z (refuse 4 s)
            (outcome done (state (map (λ _. None) s.table) (closed t.startable_last (held s.table) s.world)) (closings (held s.table))))
        go true e = subst (λ y. Matches places (cond y rs []) s.table) (sym (any_same places rs s.table m (λ x. x.reading) ∙ e)) m
        go false e =
            subst (λ x. Matches places (key_step close_all x rs) (map (λ _. None) s.table)) (sym (ap (seen_in None) (sym (append-nil (closings (held s.table)))) ∙ seen_closings None (held s.table) []))
            (subst (λ y. Matches places (cond y rs []) (map (λ _. None) s.table)) (sym (any_same places rs s.table m (λ x. x.reading) ∙ e)) (emptied places rs s.table m))

    act_follows : (capacity : ℕ) (t : Turn) (c : Call) → Follows c rs (act capacity t s c)
    act_follows capacity t (apply k op a) = apply_to_follows capacity t k op a (lookup s.table k) refl
    act_follows capacity t (fetch k op path) = fetch_follows t k op path (lookup s.table k) refl
    act_follows capacity t (list k rows room) = list_follows t k rows room (lookup s.table k) refl
    act_follows capacity t (read p) = read_follows t p (reading_by s.table p) refl
    act_follows capacity t (give_up p) = give_up_follows t p (reading_by s.table p) refl
    act_follows capacity t close_all = close_follows t

    -- a call that is refused for its areas or its arguments
    refused_follows : (c : Call) (n : ℕ) → needs_areas c ≡ true → Follows c rs (refuse n s)
    refused_follows (apply k op a) n e = m
    refused_follows (fetch k op path) n e = m
    refused_follows (list k rows room) n e = m
    refused_follows (read p) n e = m
    refused_follows (give_up p) n e = let z : ◌≡◌ {A = ℕ} 0 1 = cc in absurd (omega arith)
    refused_follows close_all n e = let z : ◌≡◌ {A = ℕ} 0 1 = cc in absurd (omega arith)

    step_follows : (capacity : ℕ) (t : Turn) → Follows t.call rs (step capacity t s)
    step_follows capacity t = areas_first (needs_areas t.call && not t.has_room) refl
      where
        within : (z : Bool) → is_within t.call ≡ z → Follows t.call rs (cond z (act capacity t s t.call) (refuse 2 s))
        within true e = act_follows capacity t t.call
        within false e = refused_follows t.call 2 (outside_needs t.call e)

        areas_first : (z : Bool) → (needs_areas t.call && not t.has_room) ≡ z → Follows t.call rs (cond z (refuse 1 s) (cond (is_within t.call) (act capacity t s t.call) (refuse 2 s)))
        areas_first true e = refused_follows t.call 1 (and_parts (needs_areas t.call) (not t.has_room) e).0
        areas_first false e = within (is_within t.call) refl

-- A list of calls

run_follows : (places capacity : ℕ) (ts : List Turn) (l : Life) (rs : List Runner) → Table l.now l.book l.ledger → Matches places rs l.now.table → Matches places (key (seen_calls capacity ts l) rs) (run capacity ts l).now.table
run_follows places capacity [] l rs v m = m
run_follows places capacity (t ∷ ts) l rs v m =
    run_follows places capacity ts (turn capacity t l) (key_step t.call (seen_of (step capacity t l.now)) rs) (step_stands Good good_keeps capacity t l.now l.book l.ledger v)
    (step_follows places l.now l.book l.ledger v rs m capacity t)

keyed_by : (places : ℕ) (l : Life) (rs : List Runner) → Table l.now l.book l.ledger → Matches places rs l.now.table → Keyed places l rs
keyed_by places l rs v m = record {
  runs = λ p. sym (runs_open l.now.table l.now.world.procs (tales l.book l.ledger) v places rs m p);
  once = once_each l.now.table l.now.world.procs (tales l.book l.ledger) v places rs m;
  few = few_runners places rs l.now.table m;
}

pub key_stands : KeyStands
key_stands capacity l b turns =
    keyed_by (length l.now.table) (run capacity turns l) (key (seen_calls capacity turns l) []) (stands Good good_keeps capacity l b turns)
    (run_follows (length l.now.table) capacity turns l [] (begins_holds Good l b) (record { counts = λ f. sym (none_held (λ r. f (runner_of r)) l.now.table b.empty); long = refl }))
