-- What a table over a host makes of each call: its answer, the table and the host's world after it, and what it did with the host.
-- From docs/TABLE.md, The calls. What is said and heard is told by the definitions of `handshake` and `client`.
use Rattle.std.specs.Prelude.{ℕ, suc, Bool, cond, not, ◌&&◌, List, [], ◌∷◌, ◌++◌, map, length, Some, None, Ok, Err, codes, Option, Result, is_none, nat_lt, unwrap_or, slice_set}
use Rattle.std.specs.List.{list_any}
use Rattle.packetline.specs.Packets.{Pkt, flush, line_pkt}
use Rattle.host.specs.declared.host.How.{How}
use Rattle.host.specs.declared.host.How.TheVariants.{Close, Kill}
use Rattle.host.specs.declared.fault.Fault.TheVariants.{Closed, Broken, Other as other_fault}
use Rattle.host.specs.declared.fault.LineFault.{LineFault}
use Rattle.host.specs.declared.fault.LineFault.TheVariants.{Host, Packet, Marker, Text}
use Rattle.host.specs.Worlds.{reply_of, Pipe, Process, gone, live, less, World, process, with_process}
use Rattle.host.specs.Acts.{can_start, some_wait, sent_to}
use Rattle.host.specs.Talk.{Event, took, refused as not_taken, gave, noted, bytes_given, Later, Wire, wire, Got, got, lost, then, send_all}
use Rattle.process.specs.declared.status.Word.TheVariants.{Success, Delayed, Abort, Error, Other}
use Rattle.process.specs.declared.status.Status.{Status}
use Rattle.process.specs.declared.status.Status.TheVariants.{Previous, Unset, Named}
use Rattle.process.specs.Masks.{without_bit}
use Rattle.handshake.specs.Handshakes.{Shaken, handshake}
use Rattle.client.specs.Requests.{command_line, content_then}
use Rattle.client.specs.Listings.{Counts, listing, named_in}
use Rattle.client.specs.Paths.{fitting, most}
use Rattle.client.specs.Results.{Piece, payload as piece, final, read_piece}
use Rattle.process.specs.declared.capabilities.Capabilities.{Capabilities}
use Rattle.records.specs.declared.key.Key.{Key}
use Rattle.records.specs.declared.operation.Operation.{Operation}
use Rattle.records.specs.declared.record.Record.{Record}
use Rattle.records.specs.declared.id.ObjectId.{ObjectId}
use Rattle.records.specs.Ids.{id_digits}
use Rattle.records.specs.Keys.{key_bytes}
use Rattle.records.specs.Operations.{operation_name, operation_place}
use Rattle.records.specs.Places.{Place}
use Rattle.records.specs.Records.{held, lookup, is_reading, reading_by, without, changed, with_reading, with_capabilities, put_first_free}
use Rattle.rules.specs.Names.{desired_names, can_do, can_delay}
use Rattle.rules.specs.Calls.{Asked, may_delay, Call, apply, fetch, list, read, give_up, close_all, is_within, needs_areas, Turn}
use Rattle.rules.specs.Answers.{Answer, passed, delayed, result, payload, finished, paths, full, done, failed, unfinished, unasked, fault, refused}

-- What is said

-- a line `key=value`
abbrev pub pair_line : List ℕ → List ℕ → Pkt
pair_line key value = line_pkt (key ++ 61 ∷ value)

-- the same of what is given
abbrev pub line_if : List ℕ → Option (List ℕ) → List Pkt
line_if key None = []
line_if key (Some value) = pair_line key value ∷ []

abbrev pub digits_of : Option ObjectId → Option (List ℕ)
digits_of None = None
digits_of (Some id) = Some (id_digits id.bytes)

-- a command for a path, lines more, and a flush
abbrev pub request_for : Operation → List ℕ → List Pkt → List Pkt
request_for op path more = command_line (operation_name op) ∷ pair_line (codes "pathname") path ∷ (more ++ flush ∷ [])

-- what is known of where the content comes from, ids by their digits, and whether the process may answer later
abbrev pub asked_lines : Asked → Bool → List Pkt
asked_lines a delays =
    line_if (codes "ref") a.ref_name ++ (line_if (codes "treeish") (digits_of a.treeish) ++ (line_if (codes "blob") (digits_of a.blob)
    ++ cond delays (pair_line (codes "can-delay") (codes "1") ∷ []) []))

-- lines and their flush, content and its flush; then a status
abbrev pub exchange : List Pkt → List ℕ → Wire → Got Status
exchange lines content v = then (send_all lines v) (content_then content)

-- What becomes of a record and its process

-- a record stays, with this mask, and reading or not; or it leaves, and its process is ended
pub data Fate : Type 0 where
  stays : ℕ → Option Operation → Fate
  leaves : How → Fate

pub record Verdict : Type 0 where
  pub answer : Answer
  pub fate : Fate

abbrev pub verdict : Answer → Fate → Verdict
verdict a f = record { answer = a; fate = f }

-- a line fault in an apply, a fetch or a listing: 11, 12 and 21 close the process, 13, 20 and 22 keep it
abbrev pub after_fault : ℕ → LineFault → Fate
after_fault m (Host Closed) = leaves Close
after_fault m (Host Broken) = leaves Close
after_fault m (Host other_fault) = stays m None
after_fault m (Packet e) = stays m None
after_fault m Marker = leaves Close
after_fault m (Text e) = stays m None

-- an exchange's status, at process p, for an operation; late is what `delayed` comes to
abbrev pub after_exchange : ℕ → Operation → ℕ → (Status → Verdict) → Status → Verdict
after_exchange p op m late Previous = verdict (failed Previous) (leaves Kill)
after_exchange p op m late Unset = verdict (failed Unset) (leaves Kill)
after_exchange p op m late (Named Success n) = verdict (result p) (stays m (Some op))
after_exchange p op m late (Named Delayed n) = late (Named Delayed n)
after_exchange p op m late (Named Abort n) = verdict (failed (Named Abort n)) (stays (without_bit m (operation_place op)) None)
after_exchange p op m late (Named Error n) = verdict (failed (Named Error n)) (stays m None)
after_exchange p op m late (Named Other n) = verdict (failed (Named Other n)) (leaves Kill)

-- `delayed` in an apply: whether it was allowed
abbrev pub delayed_if : Bool → ℕ → Status → Verdict
delayed_if allowed m s = verdict (cond allowed delayed unasked) (stays m None)

-- in a fetch it is a status like any other
abbrev pub never_delayed : Status → Verdict
never_delayed s = verdict (failed s) (leaves Kill)

-- paths that were listed
abbrev pub listed : Counts → Answer
listed c = cond c.full (full c) (paths c)

-- a listing's status
abbrev pub after_listing : ℕ → Counts → Status → Verdict
after_listing m c Previous = verdict (failed Previous) (leaves Kill)
after_listing m c Unset = verdict (failed Unset) (leaves Kill)
after_listing m c (Named Success n) = verdict (listed c) (stays m None)
after_listing m c (Named Delayed n) = verdict (failed (Named Delayed n)) (leaves Kill)
after_listing m c (Named Abort n) = verdict (failed (Named Abort n)) (stays m None)
after_listing m c (Named Error n) = verdict (failed (Named Error n)) (stays m None)
after_listing m c (Named Other n) = verdict (failed (Named Other n)) (leaves Kill)

-- the paths in what was given, counted; so many rows and so much room are lent
abbrev pub counted : ℕ → ℕ → List (List ℕ) → Counts
counted rows room named = record {
  named = most (length named);
  stored = length (fitting rows room named);
  full = nat_lt (length (fitting rows room named)) (length named);
}

-- a result's last status; a final abort takes the operation away
abbrev pub after_final : Operation → ℕ → Status → Verdict
after_final op m Previous = verdict finished (stays m None)
after_final op m Unset = verdict (unfinished Unset) (stays m None)
after_final op m (Named Success n) = verdict finished (stays m None)
after_final op m (Named Delayed n) = verdict (unfinished (Named Delayed n)) (stays m None)
after_final op m (Named Abort n) = verdict (unfinished (Named Abort n)) (stays (without_bit m (operation_place op)) None)
after_final op m (Named Error n) = verdict (unfinished (Named Error n)) (stays m None)
after_final op m (Named Other n) = verdict (unfinished (Named Other n)) (stays m None)

-- one read of a result
abbrev pub after_piece : Operation → ℕ → Piece → Verdict
after_piece op m (piece part) = verdict (payload part) (stays m (Some op))
after_piece op m (final s) = after_final op m s

-- a line fault spends a result, and the record stays
abbrev pub result_lost : ℕ → LineFault → Fate
result_lost m f = stays m None

-- What comes to wait

-- what a process adds at a send that it takes
abbrev pub reply_to : Process → List ℕ → List ℕ
reply_to gone bytes = []
reply_to (live q) bytes = reply_of q.replies bytes (some_wait q.waiting)

-- a process as events leave it, the replies to come, and all that its sends added
pub record Course : Type 0 where
  pub process_then : Process
  pub later_then : Later
  pub added : List ℕ

abbrev pub after_one : Event → Course → Course
after_one (took b) c =
    record { process_then = sent_to c.process_then b (c.later_then 0); later_then = λ n. c.later_then (suc n); added = c.added ++ reply_to c.process_then b }
after_one (not_taken b) c = c
after_one (gave b) c = record { process_then = less (length b) c.process_then; later_then = c.later_then; added = c.added }
after_one (noted s) c = c

abbrev pub course : Process → Later → List Event → Course
course x later [] = record { process_then = x; later_then = later; added = [] }
course x later (e ∷ es) = after_one e (course x later es)

-- Outcomes

-- a table over its host
pub record State : Type 0 where
  pub table : List Place
  pub world : World

abbrev pub state : List Place → World → State
state t w = record { table = t; world = w }

-- what was done with the host: a command was to be started, and has this process number or could not be; this passed with a process, to which these
-- bytes came to wait since it was started or last talked to; a process was ended
pub data Deed : Type 0 where
  starts : List ℕ → Option ℕ → Deed
  talks : ℕ → List Event → List ℕ → Deed
  ends : ℕ → How → Deed

-- a call's answer, the table and the host then, and its deeds, the latest first
pub record Outcome : Type 0 where
  pub answer : Answer
  pub after : State
  pub deeds : List Deed

abbrev pub outcome : Answer → State → List Deed → Outcome
outcome a s ds = record { answer = a; after = s; deeds = ds }

-- nothing is changed and nothing done
abbrev pub refuse : ℕ → State → Outcome
refuse n s = outcome (refused n) s []

-- a process that is ended is not open any more, and what can be started then is free; at another nothing changes
abbrev pub ended_as : (List ℕ → Bool) → World → ℕ → Process → World
ended_as startable w p gone = w
ended_as startable w p (live q) = record { procs = slice_set w.procs p gone; startable = startable }

abbrev pub ended : (List ℕ → Bool) → World → ℕ → World
ended startable w p = ended_as startable w p (process w p)

-- a record at its place: what the table becomes where another stands there, and where it is free; its process before a talk, and what waits there that
-- is not written down yet
pub record Seat : Type 0 where
  pub of : Record
  pub holding : Record → List Place
  pub free : List Place
  pub before : Process
  pub waited : List ℕ

-- the place where a record stands
abbrev pub its_seat : State → Record → Seat
its_seat s r = record { of = r; holding = λ x. changed (λ _. x) s.table r.key; free = without s.table r.key; before = process s.world r.process; waited = [] }

-- the first free place, for a record that is to come, with its new process
abbrev pub new_seat : List Place → Pipe → Record → Seat
new_seat table q r = record { of = r; holding = λ x. unwrap_or (put_first_free table x) table; free = table; before = live q; waited = q.waiting }

-- what came to wait at its process
abbrev pub comes : Turn → Seat → Wire → List ℕ
comes t seat v = seat.waited ++ (course seat.before t.later v.events).added

abbrev pub seated : Record → ℕ → Option Operation → Record
seated r m o = with_reading o (with_capabilities (record { mask = m }) r)

-- a call is over: the process is as the talk left it, or ended
abbrev pub settle_by : Turn → World → Seat → Wire → Answer → Fate → Outcome
settle_by t w seat v a (stays m o) = outcome a (state (seat.holding (seated seat.of m o)) (with_process w seat.of.process v.end)) (talks seat.of.process v.events (comes t seat v) ∷ [])
settle_by t w seat v a (leaves how) =
    outcome a (state seat.free (ended t.startable_last (with_process w seat.of.process v.end) seat.of.process)) (ends seat.of.process how ∷ talks seat.of.process v.events (comes t seat v) ∷ [])

abbrev pub settle : Turn → World → Seat → Wire → Verdict → Outcome
settle t w seat v d = settle_by t w seat v d.answer d.fate

-- a talk is over
abbrev pub conclude : {A : Type 0} → Turn → World → Seat → Got A → (A → Wire → Verdict) → (LineFault → Fate) → Outcome
conclude t w seat (got x v) right wrong = settle t w seat v (right x v)
conclude t w seat (lost f v) right wrong = settle t w seat v (verdict (fault f) (wrong f))

-- The calls

-- a record's process, as a call finds it
abbrev pub line_to : Turn → World → Record → Wire
line_to t w r = wire (process w r.process) t.later []

-- where the process cannot do the operation nothing is sent
abbrev pub apply_at : Turn → World → Seat → Wire → Operation → Asked → Outcome
apply_at t w seat v op a =
    let c : Capabilities = seat.of.capabilities in
    let delays : Bool = may_delay a.delay && can_delay c in
    cond (can_do op c)
    (conclude t w seat (exchange (request_for op a.rela_path (asked_lines a delays)) a.content v) (λ s _. after_exchange seat.of.process op c.mask (delayed_if delays c.mask) s) (after_fault c.mask))
    (settle t w seat v (verdict passed (stays c.mask seat.of.reading)))

-- a record that is not reading yet
abbrev pub newcomer_record : Key → ℕ → ℕ → ℕ → Record
newcomer_record k p n m = record { key = k; process = p; version = n; capabilities = record { mask = m }; reading = None }

-- the host with the process that it started
abbrev pub started : Turn → World → World
started t w = record { procs = w.procs ++ live t.newcomer ∷ []; startable = t.startable_then }

-- a handshake is over: where it failed the process is closed, and there is no record
abbrev pub after_handshake : Turn → State → Key → Operation → Asked → Got (Result Shaken ℕ) → Outcome
after_handshake t s k op a (got (Ok x) v) = apply_at t (started t s.world) (new_seat s.table t.newcomer (newcomer_record k (length s.world.procs) x.version x.mask)) v op a
after_handshake t s k op a (got (Err n) v) = settle t (started t s.world) (new_seat s.table t.newcomer (newcomer_record k (length s.world.procs) 0 0)) v (verdict (refused n) (leaves Close))
after_handshake t s k op a (lost f v) = settle t (started t s.world) (new_seat s.table t.newcomer (newcomer_record k (length s.world.procs) 0 0)) v (verdict (fault f) (leaves Close))

-- what a table says and hears when it meets a process
abbrev pub greeting : Wire → Got (Result Shaken ℕ)
greeting v = handshake (codes "git-filter") (2 ∷ []) desired_names v

-- a deed before the others
abbrev pub first_of_all : Deed → Outcome → Outcome
first_of_all d o = outcome o.answer o.after (o.deeds ++ d ∷ [])

abbrev pub has_free : List Place → Bool
has_free table = list_any is_none table

-- an unknown key: 6 where no place is free, 10 where its command cannot be started
abbrev pub begin : ℕ → Turn → State → Key → Operation → Asked → Outcome
begin capacity t s k op a =
    cond (has_free s.table)
    (cond (can_start capacity s.world (key_bytes k))
    (first_of_all (starts (key_bytes k) (Some (length s.world.procs))) (after_handshake t s k op a (greeting (wire (live t.newcomer) t.later []))))
    (outcome (refused 10) s (starts (key_bytes k) None ∷ [])))
    (refuse 6 s)

-- 4 where the record is reading
abbrev pub unless_reading : State → Record → Outcome → Outcome
unless_reading s r o = cond (is_reading r) (refuse 4 s) o

abbrev pub apply_to : ℕ → Turn → State → Key → Operation → Asked → Option Record → Outcome
apply_to capacity t s k op a None = begin capacity t s k op a
apply_to capacity t s k op a (Some r) = unless_reading s r (apply_at t s.world (its_seat s r) (line_to t s.world r) op a)

abbrev pub fetch_at : Turn → State → Operation → List ℕ → Record → Outcome
fetch_at t s op path r =
    conclude t s.world (its_seat s r) (exchange (request_for op path []) [] (line_to t s.world r)) (λ st _. after_exchange r.process op r.capabilities.mask never_delayed st) (after_fault r.capabilities.mask)

abbrev pub list_at : Turn → State → ℕ → ℕ → Record → Outcome
list_at t s rows room r =
    conclude t s.world (its_seat s r) (listing (line_to t s.world r)) (λ st v. after_listing r.capabilities.mask (counted rows room (named_in (bytes_given v.events))) st) (after_fault r.capabilities.mask)

-- 3 where no record has the key
abbrev pub fetch_from : Turn → State → Operation → List ℕ → Option Record → Outcome
fetch_from t s op path None = refuse 3 s
fetch_from t s op path (Some r) = unless_reading s r (fetch_at t s op path r)

abbrev pub list_from : Turn → State → ℕ → ℕ → Option Record → Outcome
list_from t s rows room None = refuse 3 s
list_from t s rows room (Some r) = unless_reading s r (list_at t s rows room r)

-- a result is that of the record's operation; 5 where no reading record has the process
abbrev pub read_at : Turn → State → Record → Option Operation → Outcome
read_at t s r None = refuse 5 s
read_at t s r (Some op) = conclude t s.world (its_seat s r) (read_piece (line_to t s.world r)) (λ x _. after_piece op r.capabilities.mask x) (result_lost r.capabilities.mask)

abbrev pub read_from : Turn → State → Option Record → Outcome
read_from t s None = refuse 5 s
read_from t s (Some r) = read_at t s r r.reading

abbrev pub give_up_at : Turn → State → Option Record → Outcome
give_up_at t s None = refuse 5 s
give_up_at t s (Some r) = outcome done (state (without s.table r.key) (ended t.startable_last s.world r.process)) (ends r.process Kill ∷ [])

-- each record's process is closed, in order
abbrev pub closed : (List ℕ → Bool) → List Record → World → World
closed startable [] w = w
closed startable (r ∷ rs) w = closed startable rs (ended startable w r.process)

abbrev pub closings : List Record → List Deed
closings [] = []
closings (r ∷ rs) = closings rs ++ ends r.process Close ∷ []

-- 4 where a record is reading
abbrev pub close : Turn → State → Outcome
close t s =
    cond (list_any is_reading (held s.table)) (refuse 4 s)
    (outcome done (state (map (λ _. None) s.table) (closed t.startable_last (held s.table) s.world)) (closings (held s.table)))

abbrev pub act : ℕ → Turn → State → Call → Outcome
act capacity t s (apply k op a) = apply_to capacity t s k op a (lookup s.table k)
act capacity t s (fetch k op path) = fetch_from t s op path (lookup s.table k)
act capacity t s (list k rows room) = list_from t s rows room (lookup s.table k)
act capacity t s (read p) = read_from t s (reading_by s.table p)
act capacity t s (give_up p) = give_up_at t s (reading_by s.table p)
act capacity t s close_all = close t s

-- One call, over a host whose list has so many places: 1 where an area is too short, 2 where an argument is outside its limits, and else as above.
abbrev pub step : ℕ → Turn → State → Outcome
step capacity t s = cond (needs_areas t.call && not t.has_room) (refuse 1 s) (cond (is_within t.call) (act capacity t s t.call) (refuse 2 s))
