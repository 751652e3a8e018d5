-- What a table's calls do with a process, between what they find in the table and what becomes of a record.
use Rattle.std.specs.Prelude.{◌≡◌, ℕ, ◌&&◌, cond, true, false, List, [], ◌∷◌, Some, None, Option, Ok, Err, Result, ◌⊎◌}
use Rattle.host.specs.declared.fault.LineFault.{LineFault}
use Rattle.host.specs.declared.fault.NotStarted.{NotStarted}
use Rattle.host.specs.declared.host.How.TheVariants.{Close}
use Rattle.host.specs.Acts.{starting, ending, Grows, Started, Ended}
use Rattle.host.specs.Talk.{Wire, wire, Later, Got, Areas, Sight, Talks, Works}
use Rattle.host.specs.Worlds.{process}
use Rattle.handshake.specs.Handshakes.{Shaken}
use Rattle.records.specs.declared.key.Key.{Key}
use Rattle.records.specs.declared.operation.Operation.{Operation}
use Rattle.records.specs.declared.record.Record.{Record}
use Rattle.client.specs.declared.listing.Listed.{Listed}
use Rattle.client.specs.declared.listing.ListFault.{ListFault}
use Rattle.client.specs.declared.listing.ListFault.TheVariants.{Full, Line}
use Rattle.client.specs.Listings.{counts_of}
use Rattle.records.specs.Keys.{key_bytes}
use Rattle.records.specs.Places.{Place}
use Rattle.records.specs.Records.{is_reading}
use Rattle.rules.specs.Names.{can_do, can_delay}
use Rattle.rules.specs.Calls.{Asked, may_delay}
use Rattle.rules.specs.Answers.{Answer, passed, fault, refused}
use Rattle.rules.specs.Steps.{Fate, stays, Verdict, verdict, exchange, request_for, asked_lines, after_exchange, delayed_if, after_fault, after_listing, newcomer_record, greeting, has_free}
use Rattle.driver.specs.Fates.{Settles}

-- what a talk comes to, by its answer or by its fault
abbrev pub judged : {A : Type 0} → (A → Wire → Verdict) → (LineFault → Fate) → Result A LineFault → Wire → Verdict
judged right wrong (Ok x) v = right x v
judged right wrong (Err f) v = verdict (fault f) (wrong f)

-- a talk with process p was judged so
pub record IsJudged {A : Type 0} (f : Wire → Got A) (right : A → Wire → Verdict) (wrong : LineFault → Fate) (w : Sight) (p : ℕ) (a : Areas) (answer : Answer) (fate : Fate) (w' : Sight) (a' : Areas) : Type 0 where
  pub said : Result A LineFault
  pub talks : Talks f w p a said w' a'
  pub verdict : (rest : Later) → judged right wrong said (wire (process w'.world p) rest talks.events) ≡ verdict answer fate

-- content is given to a record's process, if that can do the operation; else nothing is said
pub record Gives (op : Operation) (asked : Asked) (r : Record) (w : Sight) (a : Areas) (answer : Answer) (fate : Fate) (w' : Sight) (a' : Areas) : Type 0 where
  pub passes : can_do op r.capabilities ≡ false → (verdict answer fate ≡ verdict passed (stays r.capabilities.mask r.reading)) × (w' ≡ w) × (a' ≡ a)
  pub gives : can_do op r.capabilities ≡ true
      → IsJudged (exchange (request_for op asked.rela_path (asked_lines asked (may_delay asked.delay && can_delay r.capabilities))) asked.content)
      (λ s _. after_exchange r.process op r.capabilities.mask (delayed_if (may_delay asked.delay && can_delay r.capabilities) r.capabilities.mask) s) (after_fault r.capabilities.mask)
      w r.process a answer fate w' a'

-- content is given so, and the record meets its fate
pub record AppliesTo (op : Operation) (asked : Asked) (r : Record) (table : List Place) (w : Sight) (a : Areas) (answer : Answer) (table' : List Place) (w' : Sight) (a' : Areas) : Type 0 where
  pub fate : Fate
  pub then : Sight
  pub gives : Gives op asked r w a answer fate then a'
  pub settles : Settles r fate table then table' w'

-- A process was started and met so: x is what the handshake answered.
pub record Meets (capacity : ℕ) (k : Key) (w : Sight) (work : List ℕ) (p : ℕ) (x : Result (Result Shaken ℕ) LineFault) (w' : Sight) (work' : List ℕ) : Type 0 where
  pub then : Sight
  pub starts : Started capacity w.world (key_bytes k) (Ok p) then.world
  pub began : Grows w.log (starting (key_bytes k) (Ok p) ∷ []) then.log
  pub greets : Works greeting then p work x w' work'

-- a handshake that failed, as an answer
abbrev pub failure_of : Result (Result Shaken ℕ) LineFault → Option Answer
failure_of (Err f) = Some (fault f)
failure_of (Ok (Err n)) = Some (refused n)
failure_of (Ok (Ok s)) = None

-- no place is free
pub record IsFull (table : List Place) (w : Sight) (work : List ℕ) (answer : Answer) (w' : Sight) (work' : List ℕ) : Type 0 where
  pub full : has_free table ≡ false
  pub is : answer ≡ refused 6
  pub same : w' ≡ w
  pub same_area : work' ≡ work

-- the command cannot be started
pub record IsUnstarted (capacity : ℕ) (k : Key) (table : List Place) (w : Sight) (work : List ℕ) (answer : Answer) (w' : Sight) (work' : List ℕ) : Type 0 where
  pub free : has_free table ≡ true
  pub why : NotStarted
  pub starts : Started capacity w.world (key_bytes k) (Err why) w'.world
  pub logs : Grows w.log (starting (key_bytes k) (Err why) ∷ []) w'.log
  pub is : answer ≡ refused 10
  pub same_area : work' ≡ work

-- the handshake failed, and the process was closed
pub record IsClosed (capacity : ℕ) (k : Key) (table : List Place) (w : Sight) (work : List ℕ) (answer : Answer) (w' : Sight) (work' : List ℕ) : Type 0 where
  pub free : has_free table ≡ true
  pub process : ℕ
  pub said : Result (Result Shaken ℕ) LineFault
  pub then : Sight
  pub meets : Meets capacity k w work process said then work'
  pub failed : failure_of said ≡ Some answer
  pub ends : Ended then.world process w'.world
  pub logs : Grows then.log (ending process Close ∷ []) w'.log

-- hands were shaken, and there is a record to come
pub record IsReady (capacity : ℕ) (k : Key) (table : List Place) (w : Sight) (work : List ℕ) (r : Record) (w' : Sight) (work' : List ℕ) : Type 0 where
  pub free : has_free table ≡ true
  pub process : ℕ
  pub shaken : Shaken
  pub meets : Meets capacity k w work process (Ok (Ok shaken)) w' work'
  pub is : r ≡ newcomer_record k process shaken.version shaken.mask

-- a process for a key that no record has
abbrev pub Launches : ℕ → Key → List Place → Sight → List ℕ → Result Record Answer → Sight → List ℕ → Type 0
Launches capacity k table w work (Ok r) w' work' = IsReady capacity k table w work r w' work'
Launches capacity k table w work (Err answer) w' work' =
    IsFull table w work answer w' work' ⊎ (IsUnstarted capacity k table w work answer w' work' ⊎ IsClosed capacity k table w work answer w' work')

-- the record that a key finds, unless its result is being read: 3 where there is none, 4 where it is
abbrev pub idle_record : Option Record → Result Record ℕ
idle_record None = Err 3
idle_record (Some r) = cond (is_reading r) (Err 4) (Ok r)

-- what a listing comes to
abbrev pub list_verdict : ℕ → Result Listed ListFault → Verdict
list_verdict m (Ok l) = after_listing m (counts_of false l) l.status
list_verdict m (Err (Full l)) = after_listing m (counts_of true l) l.status
list_verdict m (Err (Line f)) = verdict (fault f) (after_fault m f)
