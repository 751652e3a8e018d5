-- Every call leaves the invariant standing, so every list of calls does. What holds of a record and its process's story is left open: it is asked to be
-- kept by each talk.
use Rattle.std.proofs.Common.{◌≡◌, ℕ, zero, suc, ◌<◌, Bool, true, false, cond, not, ◌&&◌, List, [], ◌∷◌, ◌++◌, map, length, Some, None, Ok, Err, codes, Option, Result, inl, inr, sym, refl, ap, ◌∙◌, subst, arith}
use Rattle.std.specs.Prelude.{slice_set, is_some, ◌==◌}
use Rattle.std.specs.List.{list_any}
use Rattle.std.proofs.lemmas.List.{append_assoc, append-nil, get_or-set_same, set-set}
use Rattle.std.proofs.lemmas.Bool.{eq-eqb, ne_eqb}
use Rattle.packetline.specs.Packets.{Pkt}
use Rattle.host.specs.declared.host.How.TheVariants.{Close}
use Rattle.host.specs.declared.fault.LineFault.{LineFault}
use Rattle.host.specs.Worlds.{Pipe, Process, gone, live, World, process, with_process, waiting_of}
use Rattle.host.specs.Acts.{can_start}
use Rattle.host.specs.Talk.{Event, bytes_given, Later, Wire, wire, Got, got, lost}
use Rattle.process.specs.declared.status.Status.{Status}
use Rattle.handshake.specs.Handshakes.{Shaken, hello, desired}
use Rattle.client.specs.Requests.{content_packets}
use Rattle.client.specs.Listings.{listing, list_request, named_in}
use Rattle.client.specs.Results.{Piece, read_piece}
use Rattle.records.specs.declared.key.Key.{Key}
use Rattle.records.specs.declared.operation.Operation.{Operation}
use Rattle.records.specs.declared.record.Record.{Record}
use Rattle.records.specs.Keys.{key_bytes, same_key}
use Rattle.records.specs.Places.{Place}
use Rattle.records.specs.Records.{held, lookup, is_reading, reading_by, without}
use Rattle.rules.specs.Names.{can_do, can_delay, desired_names}
use Rattle.records.specs.Limits.{is_path}
use Rattle.rules.specs.Calls.{Asked, Call, apply, fetch, list, read, give_up, close_all, asks_within, may_delay, is_within, needs_areas, Turn}
use Rattle.rules.specs.Answers.{Answer, passed, done, fault, refused}
use Rattle.rules.specs.Steps.{asked_lines, request_for, exchange, Fate, stays, leaves, Verdict, verdict, after_fault, after_exchange, delayed_if, never_delayed, after_listing, counted, after_piece, result_lost, State, state, Deed, starts, talks, ends, Outcome, outcome, refuse, ended_as, ended, Seat, its_seat, new_seat, comes, course, seated, settle_by, settle, conclude, line_to, apply_at, newcomer_record, started, after_handshake, greeting, first_of_all, has_free, begin, unless_reading, apply_to, fetch_at, list_at, fetch_from, list_from, read_at, read_from, give_up_at, closed, closings, close, act, step}
use Rattle.rules.specs.Stories.{episode, Story, all_given, one_if}
use Rattle.rules.specs.Lives.{Book, Ledger, Life, with_episode, with_bytes, written, came, turn, run, is_open, Begins}
use Rattle.rules.proofs.Totals.{total, In, Loses, of_key, of_process, found_in, found_none, none_held, none_in}
use Rattle.rules.proofs.Seats.{at, open_total, But, Inv, GoodAt, leave, Sits, sits_there, sits_new, count_open}
use Rattle.rules.proofs.Kept.{Always, Kept, Runs, runs_first, runs_steady, runs_all, exchange_kept, listing_kept, piece_kept, handshake_kept}

-- a story written down at its process alone
pub written_there : (b : Book) (p : ℕ) (c : Call) (es : List Event) (a : Answer) → with_episode p c es a b p ≡ episode c es a ∷ b p
written_there b p c es a = ap (λ z. cond z (episode c es a ∷ b p) (b p)) (eq-eqb p p refl)

pub written_else : (b : Book) (p : ℕ) (c : Call) (es : List Event) (a : Answer) → But p b (with_episode p c es a b)
written_else b p c es a n x = ap (λ z. cond z (episode c es a ∷ b n) (b n)) (ne_eqb n p x)

-- a deed before the others is not written down, nor is an end
written_starts : (c : Call) (a : Answer) (command : List ℕ) (n : Option ℕ) (ds : List Deed) (b : Book) (m : ℕ) → written c a (ds ++ starts command n ∷ []) b m ≡ written c a ds b m
written_starts c a command n [] b m = refl
written_starts c a command n (starts k x ∷ ds) b m = written_starts c a command n ds b m
written_starts c a command n (talks p es bytes ∷ ds) b m = ap (λ h. cond (m == p) (episode c es a ∷ h) h) (written_starts c a command n ds b m)
written_starts c a command n (ends p how ∷ ds) b m = written_starts c a command n ds b m

written_closings : (c : Call) (a : Answer) (rs : List Record) (ds : List Deed) (b : Book) → written c a (closings rs ++ ds) b ≡ written c a ds b
written_closings c a [] ds b = refl
written_closings c a (r ∷ rs) ds b =
    ap (λ xs. written c a xs b) (append_assoc (closings rs) (ends r.process Close ∷ []) ds) ∙ written_closings c a rs (ends r.process Close ∷ ds) b

came_starts : (command : List ℕ) (n : Option ℕ) (ds : List Deed) (l : Ledger) (m : ℕ) → came (ds ++ starts command n ∷ []) l m ≡ came ds l m
came_starts command n [] l m = refl
came_starts command n (starts k x ∷ ds) l m = came_starts command n ds l m
came_starts command n (talks p es bytes ∷ ds) l m = ap (λ h. cond (m == p) (h ++ bytes) h) (came_starts command n ds l m)
came_starts command n (ends p how ∷ ds) l m = came_starts command n ds l m

came_closings : (rs : List Record) (ds : List Deed) (l : Ledger) → came (closings rs ++ ds) l ≡ came ds l
came_closings [] ds l = refl
came_closings (r ∷ rs) ds l = ap (λ xs. came xs l) (append_assoc (closings rs) (ends r.process Close ∷ []) ds) ∙ came_closings rs (ends r.process Close ∷ ds) l

came_there : (l : Ledger) (p : ℕ) (bytes : List ℕ) → with_bytes p bytes l p ≡ l p ++ bytes
came_there l p bytes = ap (λ z. cond z (l p ++ bytes) (l p)) (eq-eqb p p refl)

came_else : (l : Ledger) (p : ℕ) (bytes : List ℕ) → But p l (with_bytes p bytes l)
came_else l p bytes n x = ap (λ z. cond z (l n ++ bytes) (l n)) (ne_eqb n p x)

-- what is known of a process: its story, and what came to wait there
abbrev pub Tale : Type 0
Tale = Story × List ℕ

abbrev pub tales : Book → Ledger → ℕ → Tale
tales b l n = (b n, l n)

tales_else : (b b' : Book) (l l' : Ledger) (p : ℕ) → But p b b' → But p l l' → But p (tales b l) (tales b' l')
tales_else b b' l l' p e f n x = λ i. (e n x i, f n x i)

abbrev apply_exchange : Record → Operation → Asked → Wire → Got Status
apply_exchange r op a v = exchange (request_for op a.rela_path (asked_lines a (may_delay a.delay && can_delay r.capabilities))) a.content v

abbrev apply_right : Record → Operation → Asked → Status → Wire → Verdict
apply_right r op a s v = after_exchange r.process op r.capabilities.mask (delayed_if (may_delay a.delay && can_delay r.capabilities) r.capabilities.mask) s

module _ (G : Record → Story → Type 0) where
  -- and the bytes that a process gave and those that wait are all that came to wait
  abbrev pub Whole : Record → Pipe → Tale → Type 0
  Whole r q t = G r t.0 × (all_given t.0 ++ q.waiting ≡ t.1)

  abbrev pub Holds : State → Book → Ledger → Type 0
  Holds s b l = Inv Tale ([], []) Whole s.table s.world.procs (tales b l)

  abbrev SitsAt : World → Book → Ledger → Seat → Type 0
  SitsAt w b l seat = Sits Tale ([], []) Whole w.procs (tales b l) seat

  -- what waits at a seat's process before a talk has come there
  abbrev Owed : Book → Ledger → Seat → Type 0
  Owed b l seat = all_given (b seat.of.process) ++ waiting_of seat.before ≡ l seat.of.process ++ seat.waited

  -- what holds after a call
  abbrev Stands : Call → Book → Ledger → Outcome → Type 0
  Stands c b l o = Holds o.after (written c o.answer o.deeds b) (came o.deeds l)

  -- of a record that stays what is asked holds again, with one episode more
  abbrev pub FateGood : Record → Story → Call → List Event → Answer → Fate → Type 0
  FateGood r h c es a (stays m o) = G (seated r m o) (episode c es a ∷ h)
  FateGood r h c es a (leaves how) = Unit {0}

  abbrev pub VerdictGood : Record → Story → Call → Wire → Verdict → Type 0
  VerdictGood r h c v d = FateGood r h c v.events d.answer d.fate

  -- a talk, with what it comes to
  abbrev pub TalkGood : {A : Type 0} → Record → Story → Call → Got A → (A → Wire → Verdict) → (LineFault → Fate) → Type 0
  TalkGood r h c g right wrong = Always (λ x v. VerdictGood r h c v (right x v)) (λ f v. FateGood r h c v.events (fault f) (wrong f)) g

  abbrev pub ApplyGood : Record → Story → Key → Operation → Asked → Wire → Type 0
  ApplyGood r h k op a v =
      (can_do op r.capabilities ≡ true
      → TalkGood r h (apply k op a) (exchange (request_for op a.rela_path (asked_lines a (may_delay a.delay && can_delay r.capabilities))) a.content v)
      (λ s _. after_exchange r.process op r.capabilities.mask (delayed_if (may_delay a.delay && can_delay r.capabilities) r.capabilities.mask) s) (after_fault r.capabilities.mask))
      × (can_do op r.capabilities ≡ false → G (seated r r.capabilities.mask r.reading) (episode (apply k op a) v.events passed ∷ h))

  abbrev pub GreetGood : Key → ℕ → Operation → Asked → Result Shaken ℕ → Wire → Type 0
  GreetGood k p op a (Ok x) v = ApplyGood (newcomer_record k p x.version x.mask) [] k op a v
  GreetGood k p op a (Err n) v = Unit {0}

  -- each talk of each call keeps what is asked
  pub record Keeps : Type 0 where
    pub applies : (r : Record) (h : Story) (k : Key) (op : Operation) (a : Asked) (q : Pipe) (l : Later) → asks_within a ≡ true → G r h → r.reading ≡ None → ApplyGood r h k op a (wire (live q) l [])
    pub greets : (k : Key) (p : ℕ) (op : Operation) (a : Asked) (q : Pipe) (l : Later) → asks_within a ≡ true → Always (GreetGood k p op a) (λ f v. Unit {0}) (greeting (wire (live q) l []))
    pub fetches : (r : Record) (h : Story) (k : Key) (op : Operation) (path : List ℕ) (q : Pipe) (l : Later) → is_path path ≡ true → G r h → r.reading ≡ None
        → TalkGood r h (fetch k op path) (exchange (request_for op path []) [] (wire (live q) l [])) (λ s _. after_exchange r.process op r.capabilities.mask never_delayed s) (after_fault r.capabilities.mask)
    pub lists : (r : Record) (h : Story) (k : Key) (rows room : ℕ) (q : Pipe) (l : Later) → G r h → r.reading ≡ None
        → TalkGood r h (list k rows room) (listing (wire (live q) l [])) (λ s v. after_listing r.capabilities.mask (counted rows room (named_in (bytes_given v.events))) s) (after_fault r.capabilities.mask)
    pub reads : (r : Record) (h : Story) (p : ℕ) (op : Operation) (q : Pipe) (l : Later) → G r h → r.reading ≡ Some op
        → TalkGood r h (read p) (read_piece (wire (live q) l [])) (λ x _. after_piece op r.capabilities.mask x) (result_lost r.capabilities.mask)

  -- a call is over
  end_procs : (startable : List ℕ → Bool) (w : World) (p : ℕ) (x : Process) → p < length w.procs → (ended_as startable (with_process w p x) p x).procs ≡ slice_set w.procs p gone
  end_procs startable w p gone h = refl
  end_procs startable w p (live q) h = set-set w.procs p (live q) gone

  ended_procs : (startable : List ℕ → Bool) (w : World) (p : ℕ) (x : Process) → p < length w.procs → (ended startable (with_process w p x) p).procs ≡ slice_set w.procs p gone
  ended_procs startable w p x h = ap (λ y. (ended_as startable (with_process w p x) p y).procs) (get_or-set_same w.procs p x gone h) ∙ end_procs startable w p x h

  module _ (t : Turn) (w : World) (b : Book) (l : Ledger) (c : Call) (seat : Seat) (s : SitsAt w b l seat) (owed : Owed b l seat) where
    p₀ : ℕ
    p₀ = seat.of.process

    settled : (v : Wire) (a : Answer) → But seat.of.process (tales b l) (tales (with_episode seat.of.process c v.events a b) (with_bytes seat.of.process (comes t seat v) l))
    settled v a =
        tales_else b (with_episode seat.of.process c v.events a b) l (with_bytes seat.of.process (comes t seat v) l) seat.of.process
        (written_else b seat.of.process c v.events a) (came_else l seat.of.process (comes t seat v))

    -- what came is what was given and what waits
    balance : (v : Wire) (q : Pipe) → v.end ≡ live q → Runs seat.before t.later v → (a : Answer)
        → all_given (with_episode seat.of.process c v.events a b seat.of.process) ++ q.waiting ≡ with_bytes seat.of.process (comes t seat v) l seat.of.process
    balance v q e r a =
        ap (λ h. all_given h ++ q.waiting) (written_there b seat.of.process c v.events a)
        ∙ append_assoc (all_given (b seat.of.process)) (bytes_given v.events) q.waiting
        ∙ ap (λ y. all_given (b seat.of.process) ++ (bytes_given v.events ++ waiting_of y)) (sym e)
        ∙ ap (λ xs. all_given (b seat.of.process) ++ xs) r.whole
        ∙ sym (append_assoc (all_given (b seat.of.process)) (waiting_of seat.before) (course seat.before t.later v.events).added)
        ∙ ap (λ xs. xs ++ (course seat.before t.later v.events).added) owed
        ∙ append_assoc (l seat.of.process) seat.waited (course seat.before t.later v.events).added
        ∙ sym (came_there l seat.of.process (comes t seat v))

    settle_stands : (v : Wire) (a : Answer) (f : Fate) → Runs seat.before t.later v → FateGood seat.of (b seat.of.process) c v.events a f → Stands c b l (settle_by t w seat v a f)
    settle_stands v a (stays m o) r g =
        let q = r.lives.0 in
        subst (λ x. Inv Tale ([], []) Whole (seat.holding (seated seat.of m o)) (slice_set w.procs seat.of.process x) (tales (with_episode seat.of.process c v.events a b) (with_bytes seat.of.process (comes t seat v) l))) (sym r.lives.1)
        (s.back m o q (tales (with_episode seat.of.process c v.events a b) (with_bytes seat.of.process (comes t seat v) l)) (settled v a)
        (subst (G (seated seat.of m o)) (sym (written_there b seat.of.process c v.events a)) g, balance v q r.lives.1 r a))
    settle_stands v a (leaves how) r g =
        subst (λ xs. Inv Tale ([], []) Whole seat.free xs (tales (with_episode seat.of.process c v.events a b) (with_bytes seat.of.process (comes t seat v) l)))
        (sym (ended_procs t.startable_last w seat.of.process v.end s.inside))
        (s.out (tales (with_episode seat.of.process c v.events a b) (with_bytes seat.of.process (comes t seat v) l)) (settled v a))

    conclude_stands : {A : Type 0} (g : Got A) (right : A → Wire → Verdict) (wrong : LineFault → Fate) → Kept (Runs seat.before t.later) g → TalkGood seat.of (b seat.of.process) c g right wrong
        → Stands c b l (conclude t w seat g right wrong)
    conclude_stands (got x v) right wrong r h = settle_stands v (right x v).answer (right x v).fate r h
    conclude_stands (lost f v) right wrong r h = settle_stands v (fault f) (wrong f) r h

  exchange_runs : (x : Process) (l : Later) (lines : List Pkt) (content : List ℕ) (v : Wire) → Runs x l v → Kept (Runs x l) (exchange lines content v)
  exchange_runs x l lines content v r = exchange_kept (Runs x l) (runs_steady x l) lines content (runs_all x l lines) (runs_all x l (content_packets content)) v r

  apply_stands : (t : Turn) (w : World) (b : Book) (l : Ledger) (seat : Seat) (v : Wire) (k : Key) (op : Operation) (a : Asked) → SitsAt w b l seat → Owed b l seat → Runs seat.before t.later v
      → ApplyGood seat.of (b seat.of.process) k op a v → Stands (apply k op a) b l (apply_at t w seat v op a)
  apply_stands t w b l seat v k op a s owed r g = go (can_do op seat.of.capabilities) refl
    where
      go : (z : Bool) → can_do op seat.of.capabilities ≡ z → Stands (apply k op a) b l (cond z
          (conclude t w seat (apply_exchange seat.of op a v) (apply_right seat.of op a) (after_fault seat.of.capabilities.mask))
          (settle t w seat v (verdict passed (stays seat.of.capabilities.mask seat.of.reading))))
      go true e =
          conclude_stands t w b l (apply k op a) seat s owed (apply_exchange seat.of op a v) (apply_right seat.of op a) (after_fault seat.of.capabilities.mask)
          (exchange_runs seat.before t.later (request_for op a.rela_path (asked_lines a (may_delay a.delay && can_delay seat.of.capabilities))) a.content v r) (g.0 e)
      go false e = settle_stands t w b l (apply k op a) seat s owed v passed (stays seat.of.capabilities.mask seat.of.reading) r (g.1 e)

  -- a new process
  module _ (t : Turn) (s : State) (b : Book) (l : Ledger) (v : Holds s b l) (k : Key) (op : Operation) (a : Asked) (free : has_free s.table ≡ true) (unused : total (of_key k) s.table ≡ 0) where
    seat_for : (n m : ℕ) → SitsAt (started t s.world) b l (new_seat s.table t.newcomer (newcomer_record k (length s.world.procs) n m))
    seat_for n m = sits_new Tale ([], []) Whole s.table s.world.procs (tales b l) v (newcomer_record k (length s.world.procs) n m) t.newcomer free unused refl

    unborn_book : b (length s.world.procs) ≡ []
    unborn_book = ap (λ (x : Tale). x.0) (v.unborn (length s.world.procs) (omega arith))

    owed_for : (n m : ℕ) → Owed b l (new_seat s.table t.newcomer (newcomer_record k (length s.world.procs) n m))
    owed_for n m =
        ap (λ h. all_given h ++ t.newcomer.waiting) unborn_book
        ∙ ap (λ (x : Tale). x.1 ++ t.newcomer.waiting) (sym (v.unborn (length s.world.procs) (omega arith)))

    handshake_stands : (g : Got (Result Shaken ℕ)) → Kept (Runs (live t.newcomer) t.later) g → Always (GreetGood k (length s.world.procs) op a) (λ f u. Unit {0}) g
        → Stands (apply k op a) b l (after_handshake t s k op a g)
    handshake_stands (got (Ok x) u) r g =
        apply_stands t (started t s.world) b l (new_seat s.table t.newcomer (newcomer_record k (length s.world.procs) x.version x.mask)) u k op a (seat_for x.version x.mask) (owed_for x.version x.mask) r
        (subst (λ h. ApplyGood (newcomer_record k (length s.world.procs) x.version x.mask) h k op a u) (sym unborn_book) g)
    handshake_stands (got (Err n) u) r g =
        settle_stands t (started t s.world) b l (apply k op a) (new_seat s.table t.newcomer (newcomer_record k (length s.world.procs) 0 0)) (seat_for 0 0) (owed_for 0 0) u (refused n) (leaves Close) r tt
    handshake_stands (lost f u) r g =
        settle_stands t (started t s.world) b l (apply k op a) (new_seat s.table t.newcomer (newcomer_record k (length s.world.procs) 0 0)) (seat_for 0 0) (owed_for 0 0) u (fault f) (leaves Close) r tt

  -- books that say the same stand as well
  same_books : (s : State) (b b' : Book) (l l' : Ledger) → ((n : ℕ) → b' n ≡ b n) → ((n : ℕ) → l' n ≡ l n) → Holds s b l → Holds s b' l'
  same_books s b b' l l' e f v = record {
    as_many = v.as_many;
    one_to_each = v.one_to_each;
    keys_differ = v.keys_differ;
    good = λ r i. subst (GoodAt Tale ([], []) Whole r (at s.world.procs r.process)) (λ j. (sym (e r.process) j, sym (f r.process) j)) (v.good r i);
    unborn = λ n h. (λ j. (e n j, f n j)) ∙ v.unborn n h;
  }

  first_stands : (c : Call) (b : Book) (l : Ledger) (command : List ℕ) (n : Option ℕ) (o : Outcome) → Stands c b l o → Stands c b l (first_of_all (starts command n) o)
  first_stands c b l command n o v =
      same_books o.after (written c o.answer o.deeds b) (written c o.answer (o.deeds ++ starts command n ∷ []) b) (came o.deeds l) (came (o.deeds ++ starts command n ∷ []) l)
      (written_starts c o.answer command n o.deeds b) (came_starts command n o.deeds l) v

  module _ (keeps : Keeps) where
    begin_stands : (capacity : ℕ) (t : Turn) (s : State) (b : Book) (l : Ledger) → Holds s b l → (k : Key) (op : Operation) (a : Asked) → asks_within a ≡ true → total (of_key k) s.table ≡ 0
        → Stands (apply k op a) b l (begin capacity t s k op a)
    begin_stands capacity t s b l v k op a within unused = go (has_free s.table) (can_start capacity s.world (key_bytes k)) refl
      where
        go : (y z : Bool) → has_free s.table ≡ y → Stands (apply k op a) b l (cond y
            (cond z
            (first_of_all (starts (key_bytes k) (Some (length s.world.procs))) (after_handshake t s k op a (greeting (wire (live t.newcomer) t.later []))))
            (outcome (refused 10) s (starts (key_bytes k) None ∷ [])))
            (refuse 6 s))
        go false z e = v
        go true false e = v
        go true true e =
            first_stands (apply k op a) b l (key_bytes k) (Some (length s.world.procs)) (after_handshake t s k op a (greeting (wire (live t.newcomer) t.later [])))
            (handshake_stands t s b l v k op a e unused (greeting (wire (live t.newcomer) t.later []))
            (handshake_kept (Runs (live t.newcomer) t.later) (runs_steady (live t.newcomer) t.later) (codes "git-filter") (2 ∷ []) desired_names (runs_all (live t.newcomer) t.later (hello (codes "git-filter") (2 ∷ [])))
            (runs_all (live t.newcomer) t.later (desired desired_names)) (wire (live t.newcomer) t.later []) (runs_first t.newcomer t.later))
            (keeps.greets k (length s.world.procs) op a t.newcomer t.later within))

    -- a known record that is not reading, over its open process
    not_reading : (o : Option Operation) → is_some o ≡ false → o ≡ None
    not_reading None e = refl
    not_reading (Some op) e = let z : ◌≡◌ {A = ℕ} 0 1 = cc in absurd (omega arith)

    unless_stands : (s : State) (b : Book) (l : Ledger) → Holds s b l → (c : Call) (r : Record) (o : Outcome) → (r.reading ≡ None → Stands c b l o) → Stands c b l (unless_reading s r o)
    unless_stands s b l v c r o on = go (is_reading r) refl
      where
        go : (z : Bool) → is_reading r ≡ z → Stands c b l (cond z (refuse 4 s) o)
        go true e = v
        go false e = on (not_reading r.reading e)

    open_here : (r : Record) (x : Process) (h : Tale) → GoodAt Tale ([], []) Whole r x h → (q : Pipe) × (x ≡ live q) × Whole r q h
    open_here r gone h g = absurd g
    open_here r (live q) h g = (q, refl, g)

    -- a recorded process, as a call finds it
    module _ (t : Turn) (s : State) (b : Book) (l : Ledger) (v : Holds s b l) (r : Record) (i : In r s.table) where
      its_pipe : (q : Pipe) × (process s.world r.process ≡ live q) × Whole r q (tales b l r.process)
      its_pipe = open_here r (process s.world r.process) (tales b l r.process) (v.good r i)

      its_good : G r (b r.process)
      its_good = its_pipe.2.0

      its_sits : SitsAt s.world b l (its_seat s r)
      its_sits = sits_there Tale ([], []) Whole s (tales b l) v r i

      its_owed : Owed b l (its_seat s r)
      its_owed = ap (λ x. all_given (b r.process) ++ waiting_of x) its_pipe.1 ∙ its_pipe.2.1 ∙ sym (append-nil (l r.process))

      its_runs : Runs (process s.world r.process) t.later (line_to t s.world r)
      its_runs = subst (λ x. Runs x t.later (wire x t.later [])) (sym its_pipe.1) (runs_first its_pipe.0 t.later)

      -- what holds of a talk with an open process holds of this one
      its : (P : Wire → Type 0) → ((q : Pipe) → P (wire (live q) t.later [])) → P (line_to t s.world r)
      its P h = subst (λ x. P (wire x t.later [])) (sym its_pipe.1) (h its_pipe.0)

      apply_known : (k : Key) (op : Operation) (a : Asked) → asks_within a ≡ true → r.reading ≡ None → Stands (apply k op a) b l (apply_at t s.world (its_seat s r) (line_to t s.world r) op a)
      apply_known k op a within idle =
          apply_stands t s.world b l (its_seat s r) (line_to t s.world r) k op a its_sits its_owed its_runs
          (its (ApplyGood r (b r.process) k op a) (λ q. keeps.applies r (b r.process) k op a q t.later within its_good idle))

      fetch_known : (k : Key) (op : Operation) (path : List ℕ) → is_path path ≡ true → r.reading ≡ None → Stands (fetch k op path) b l (fetch_at t s op path r)
      fetch_known k op path within idle =
          let right : Status → Wire → Verdict = λ st _. after_exchange r.process op r.capabilities.mask never_delayed st in
          conclude_stands t s.world b l (fetch k op path) (its_seat s r) its_sits its_owed (exchange (request_for op path []) [] (line_to t s.world r)) right (after_fault r.capabilities.mask)
          (exchange_runs (process s.world r.process) t.later (request_for op path []) [] (line_to t s.world r) its_runs)
          (its (λ u. TalkGood r (b r.process) (fetch k op path) (exchange (request_for op path []) [] u) right (after_fault r.capabilities.mask))
          (λ q. keeps.fetches r (b r.process) k op path q t.later within its_good idle))

      list_known : (k : Key) (rows room : ℕ) → r.reading ≡ None → Stands (list k rows room) b l (list_at t s rows room r)
      list_known k rows room idle =
          let right : Status → Wire → Verdict = λ st u. after_listing r.capabilities.mask (counted rows room (named_in (bytes_given u.events))) st in
          conclude_stands t s.world b l (list k rows room) (its_seat s r) its_sits its_owed (listing (line_to t s.world r)) right (after_fault r.capabilities.mask)
          (listing_kept (Runs (process s.world r.process) t.later) (runs_steady (process s.world r.process) t.later) (runs_all (process s.world r.process) t.later list_request) (line_to t s.world r) its_runs)
          (its (λ u. TalkGood r (b r.process) (list k rows room) (listing u) right (after_fault r.capabilities.mask)) (λ q. keeps.lists r (b r.process) k rows room q t.later its_good idle))

      read_known : (p : ℕ) (o : Option Operation) → r.reading ≡ o → Stands (read p) b l (read_at t s r o)
      read_known p None e = v
      read_known p (Some op) e =
          let right : Piece → Wire → Verdict = λ x _. after_piece op r.capabilities.mask x in
          conclude_stands t s.world b l (read p) (its_seat s r) its_sits its_owed (read_piece (line_to t s.world r)) right (result_lost r.capabilities.mask)
          (piece_kept (Runs (process s.world r.process) t.later) (runs_steady (process s.world r.process) t.later) (line_to t s.world r) its_runs)
          (its (λ u. TalkGood r (b r.process) (read p) (read_piece u) right (result_lost r.capabilities.mask)) (λ q. keeps.reads r (b r.process) p op q t.later its_good e))

    apply_to_stands : (capacity : ℕ) (t : Turn) (s : State) (b : Book) (l : Ledger) → Holds s b l → (k : Key) (op : Operation) (a : Asked) → asks_within a ≡ true → (o : Option Record) → lookup s.table k ≡ o
        → Stands (apply k op a) b l (apply_to capacity t s k op a o)
    apply_to_stands capacity t s b l v k op a within None e = begin_stands capacity t s b l v k op a within (found_none (λ r. same_key r.key k) s.table e)
    apply_to_stands capacity t s b l v k op a within (Some r) e =
        unless_stands s b l v (apply k op a) r (apply_at t s.world (its_seat s r) (line_to t s.world r) op a)
        (λ idle. apply_known t s b l v r (found_in (λ x. same_key x.key k) s.table r e).0 k op a within idle)

    fetch_stands : (t : Turn) (s : State) (b : Book) (l : Ledger) → Holds s b l → (k : Key) (op : Operation) (path : List ℕ) → is_path path ≡ true → (o : Option Record) → lookup s.table k ≡ o
        → Stands (fetch k op path) b l (fetch_from t s op path o)
    fetch_stands t s b l v k op path within None e = v
    fetch_stands t s b l v k op path within (Some r) e =
        unless_stands s b l v (fetch k op path) r (fetch_at t s op path r) (λ idle. fetch_known t s b l v r (found_in (λ x. same_key x.key k) s.table r e).0 k op path within idle)

    list_stands : (t : Turn) (s : State) (b : Book) (l : Ledger) → Holds s b l → (k : Key) (rows room : ℕ) → (o : Option Record) → lookup s.table k ≡ o → Stands (list k rows room) b l (list_from t s rows room o)
    list_stands t s b l v k rows room None e = v
    list_stands t s b l v k rows room (Some r) e =
        unless_stands s b l v (list k rows room) r (list_at t s rows room r) (λ idle. list_known t s b l v r (found_in (λ x. same_key x.key k) s.table r e).0 k rows room idle)

    read_stands : (t : Turn) (s : State) (b : Book) (l : Ledger) → Holds s b l → (p : ℕ) → (o : Option Record) → reading_by s.table p ≡ o → Stands (read p) b l (read_from t s o)
    read_stands t s b l v p None e = v
    read_stands t s b l v p (Some r) e = read_known t s b l v r (found_in (λ x. x.process == p && is_reading x) s.table r e).0 p r.reading refl

    -- a record's process is ended, and the record goes
    gone_procs : (startable : List ℕ → Bool) (w : World) (r : Record) (h : Tale) (x : Process) → GoodAt Tale ([], []) Whole r x h → (ended_as startable w r.process x).procs ≡ slice_set w.procs r.process gone
    gone_procs startable w r h gone g = absurd g
    gone_procs startable w r h (live q) g = refl

    give_up_stands : (t : Turn) (s : State) (b : Book) (l : Ledger) → Holds s b l → (p : ℕ) → (o : Option Record) → reading_by s.table p ≡ o → Stands (give_up p) b l (give_up_at t s o)
    give_up_stands t s b l v p None e = v
    give_up_stands t s b l v p (Some r) e =
        let i = (found_in (λ x. x.process == p && is_reading x) s.table r e).0 in
        subst (λ xs. Inv Tale ([], []) Whole (without s.table r.key) xs (tales b l)) (sym (gone_procs t.startable_last s.world r (tales b l r.process) (at s.world.procs r.process) (v.good r i)))
        ((sits_there Tale ([], []) Whole s (tales b l) v r i).out (tales b l) (λ n x. refl))

    -- all are closed
    abbrev Stay : List Place → List Process → (ℕ → Tale) → Type 0
    Stay ps ws b = Inv Tale ([], []) Whole ps ws b

    skip : (ps : List Place) (ws : List Process) (b : ℕ → Tale) → Stay (None ∷ ps) ws b → Stay ps ws b
    skip ps ws b v = record { as_many = v.as_many; one_to_each = v.one_to_each; keys_differ = v.keys_differ; good = v.good; unborn = v.unborn }

    ahead : (ps : List Place) (ws : List Process) (b : ℕ → Tale) → Stay ps ws b → Stay (None ∷ ps) ws b
    ahead ps ws b v = record { as_many = v.as_many; one_to_each = v.one_to_each; keys_differ = v.keys_differ; good = v.good; unborn = v.unborn }

    goes_first : (r : Record) (ps : List Place) → Loses (Some r ∷ ps) r ps
    goes_first r ps = record { less = λ f. omega arith; only = λ x i. inr i }

    closed_stands : (startable : List ℕ → Bool) (ps : List Place) (w : World) (b : ℕ → Tale) → Stay ps w.procs b → Stay (map (λ _. None) ps) (closed startable (held ps) w).procs b
    closed_stands startable [] w b v = v
    closed_stands startable (None ∷ ps) w b v = ahead (map (λ _. None) ps) _ b (closed_stands startable ps w b (skip ps w.procs b v))
    closed_stands startable (Some r ∷ ps) w b v =
        ahead (map (λ _. None) ps) _ b
        (closed_stands startable ps (ended startable w r.process) b
        (subst (λ xs. Stay ps xs b) (sym (gone_procs startable w r (b r.process) (at w.procs r.process) (v.good r (inl refl))))
        (leave Tale ([], []) Whole (Some r ∷ ps) ps w.procs b b v r (inl refl) (goes_first r ps) (λ n x. refl))))

    close_stands : (t : Turn) (s : State) (b : Book) (l : Ledger) → Holds s b l → Stands close_all b l (close t s)
    close_stands t s b l v = go (list_any is_reading (held s.table))
      where
        after : State
        after = state (map (λ _. None) s.table) (closed t.startable_last (held s.table) s.world)

        go : (z : Bool) → Stands close_all b l (cond z (refuse 4 s)
            (outcome done (state (map (λ _. None) s.table) (closed t.startable_last (held s.table) s.world)) (closings (held s.table))))
        go true = v
        go false =
            same_books (state (map (λ _. None) s.table) (closed t.startable_last (held s.table) s.world)) b (written close_all done (closings (held s.table)) b) l (came (closings (held s.table)) l)
            (λ n. ap (λ ds. written close_all done ds b n) (sym (append-nil (closings (held s.table)))) ∙ ap (λ x. x n) (written_closings close_all done (held s.table) [] b))
            (λ n. ap (λ ds. came ds l n) (sym (append-nil (closings (held s.table)))) ∙ ap (λ x. x n) (came_closings (held s.table) [] l))
            (closed_stands t.startable_last s.table s.world (tales b l) v)

    act_stands : (capacity : ℕ) (t : Turn) (s : State) (b : Book) (l : Ledger) → Holds s b l → (c : Call) → is_within c ≡ true → Stands c b l (act capacity t s c)
    act_stands capacity t s b l v (apply k op a) w = apply_to_stands capacity t s b l v k op a w (lookup s.table k) refl
    act_stands capacity t s b l v (fetch k op path) w = fetch_stands t s b l v k op path w (lookup s.table k) refl
    act_stands capacity t s b l v (list k rows room) w = list_stands t s b l v k rows room (lookup s.table k) refl
    act_stands capacity t s b l v (read p) w = read_stands t s b l v p (reading_by s.table p) refl
    act_stands capacity t s b l v (give_up p) w = give_up_stands t s b l v p (reading_by s.table p) refl
    act_stands capacity t s b l v close_all w = close_stands t s b l v

    pub step_stands : (capacity : ℕ) (t : Turn) (s : State) (b : Book) (l : Ledger) → Holds s b l → Stands t.call b l (step capacity t s)
    step_stands capacity t s b l v = first (needs_areas t.call && not t.has_room)
      where
        second : (z : Bool) → is_within t.call ≡ z → Stands t.call b l (cond z (act capacity t s t.call) (refuse 2 s))
        second true e = act_stands capacity t s b l v t.call e
        second false e = v

        first : (z : Bool) → Stands t.call b l (cond z (refuse 1 s) (cond (is_within t.call) (act capacity t s t.call) (refuse 2 s)))
        first true = v
        first false = second (is_within t.call) refl

    run_stands : (capacity : ℕ) (ts : List Turn) (l : Life) → Holds l.now l.book l.ledger → Holds (run capacity ts l).now (run capacity ts l).book (run capacity ts l).ledger
    run_stands capacity [] l v = v
    run_stands capacity (t ∷ ts) l v = run_stands capacity ts (turn capacity t l) (step_stands capacity t l.now l.book l.ledger v)

  -- an empty table over a host with no process open
  open_none : (ws : List Process) (p : ℕ) → open_total ws ≡ 0 → one_if (is_open (at ws p)) ≡ 0
  open_none [] p e = refl
  open_none (x ∷ ws) zero e = omega arith
  open_none (x ∷ ws) (suc p) e = open_none ws p (omega arith)

  pub begins_holds : (l : Life) → Begins l → Holds l.now l.book l.ledger
  begins_holds l b = record {
    as_many = sym (count_open l.now.world.procs) ∙ b.none_open ∙ sym (none_held (λ r. 1) l.now.table b.empty);
    one_to_each = λ p. none_held (of_process p) l.now.table b.empty ∙ sym (open_none l.now.world.procs p (sym (count_open l.now.world.procs) ∙ b.none_open));
    keys_differ = λ k. let z = none_held (of_key k) l.now.table b.empty in omega arith;
    good = λ r i. absurd (none_in r l.now.table b.empty i);
    unborn = λ p h i. (b.unwritten p i, b.none_came p i);
  }

  pub stands : Keeps → (capacity : ℕ) (l : Life) → Begins l → (ts : List Turn) → Holds (run capacity ts l).now (run capacity ts l).book (run capacity ts l).ledger
  stands keeps capacity l b ts = run_stands keeps capacity ts l (begins_holds l b)
