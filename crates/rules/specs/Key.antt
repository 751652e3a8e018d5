-- The key: which processes run after a list of a table's calls, told from what is seen of each call alone: with which process it talked, the bytes that
-- it was given, and the host's fault in which it ended, if it did. Nothing else of an answer is looked at, and nothing of the table.
-- From docs/RULES.md, The key.
use Rattle.std.specs.Prelude.{◌≡◌, ℕ, ◌≤◌, Bool, true, false, cond, not, ◌&&◌, List, [], ◌∷◌, ◌++◌, length, Some, None, Option, filter, nat_le, ◌==◌}
use Rattle.std.specs.Option.{option_map_or}
use Rattle.std.specs.List.{list_any, count_by}
use Rattle.packetline.specs.Packets.{Pkt, line, decode, flushes_of}
use Rattle.host.specs.declared.fault.Fault.{Fault}
use Rattle.host.specs.declared.fault.Fault.TheVariants.{Closed, Broken, Other as other_fault}
use Rattle.host.specs.declared.fault.LineFault.TheVariants.{Host}
use Rattle.host.specs.Talk.{bytes_given}
use Rattle.host.specs.Worlds.{process}
use Rattle.process.specs.declared.status.Word.TheVariants.{Success, Delayed, Abort, Error}
use Rattle.process.specs.declared.status.Status.TheVariants.{Previous, Named}
use Rattle.rules.specs.Calls.{Call, apply, fetch, list, read, give_up, close_all, Turn}
use Rattle.rules.specs.Answers.{Answer, fault}
use Rattle.rules.specs.Steps.{Deed, starts, talks, ends, Outcome, step}
use Rattle.rules.specs.Stories.{Telling, told, marked, cut, telling, behind_flushes}
use Rattle.rules.specs.Lives.{Life, turn, run, is_open, Begins}

-- What is seen

-- the process that a call talked with, by its number, if it talked with one; what was given in it; and the host's fault, 11 to 13, in which it ended, if it did
pub record Seen : Type 0 where
  pub talked_with : Option ℕ
  pub given : List ℕ
  pub ended : Option Fault

abbrev pub ended_by : Answer → Option Fault
ended_by (fault (Host f)) = Some f
ended_by _ = None

-- what is seen of deeds; a call talks with one process at most
abbrev pub seen_in : Option Fault → List Deed → Seen
seen_in f [] = record { talked_with = None; given = []; ended = f }
seen_in f (starts command n ∷ ds) = seen_in f ds
seen_in f (talks p es bytes ∷ ds) = record { talked_with = Some p; given = bytes_given es; ended = f }
seen_in f (ends p how ∷ ds) = seen_in f ds

abbrev pub seen_of : Outcome → Seen
seen_of o = seen_in (ended_by o.answer) o.deeds

-- each call, with what is seen of it
abbrev pub seen_calls : ℕ → List Turn → Life → List (Call × Seen)
seen_calls capacity [] l = []
seen_calls capacity (t ∷ ts) l = (t.call, seen_of (step capacity t l.now)) ∷ seen_calls capacity ts (turn capacity t l)

-- What ends a process

-- what a call leaves of the process that it talked with: it is ended; it runs; it runs, and its result is being read
pub data Afterwards : Type 0 where
  dies lives reads : Afterwards

-- An apply, a fetch or a list, by what was told, how the input ended, and the call. `success`, `abort` and `error` keep a process, and in an apply so does
-- `delayed`; any other status ends it, and so does none at all. Where no status came, a marker ends it, and so do 11 and 12; 13 keeps it, and so do a header
-- that is none, a line that is no text, and an apply of what it cannot do, in which nothing is said.
abbrev pub after_telling : Telling → Option Fault → Call → Afterwards
after_telling (told (Named Success n)) f (list k rows room) = lives
after_telling (told (Named Success n)) f c = reads
after_telling (told (Named Delayed n)) f (apply k op a) = lives
after_telling (told (Named Delayed n)) f c = dies
after_telling (told (Named Abort n)) f c = lives
after_telling (told (Named Error n)) f c = lives
after_telling (told s) f c = dies
after_telling marked f c = dies
after_telling cut (Some Closed) c = dies
after_telling cut (Some Broken) c = dies
after_telling cut (Some other_fault) c = lives
after_telling cut None c = lives

abbrev pub begins_with_payload : List Pkt → Bool
begins_with_payload (line payload ∷ ps) = true
begins_with_payload _ = false

-- A call on a process that runs. A listing's status stands behind the flush of its paths. A read ends no process; the reading goes on where a payload was
-- given, and is over at anything else.
abbrev pub after_call : Call → List Pkt → Option Fault → Afterwards
after_call (apply k op a) ps f = after_telling (telling Previous ps) f (apply k op a)
after_call (fetch k op path) ps f = after_telling (telling Previous ps) f (fetch k op path)
after_call (list k rows room) ps f = after_telling (telling Previous (behind_flushes 1 ps)) f (list k rows room)
after_call (read p) ps f = cond (begins_with_payload ps) reads lives
after_call _ ps f = lives

-- A call that meets a process: its handshake went well exactly if it gave two flushes, and what follows them is judged as in any call.
abbrev pub after_meeting : Call → List Pkt → Option Fault → Afterwards
after_meeting c ps f = cond (nat_le 2 (flushes_of ps)) (after_call c (behind_flushes 2 ps) f) dies

abbrev pub afterwards : Bool → Call → List Pkt → Option Fault → Afterwards
afterwards known c ps f = cond known (after_call c ps f) (after_meeting c ps f)

-- The runners

-- a process that runs, and whether its result is being read
pub record Runner : Type 0 where
  pub process : ℕ
  pub reading : Bool

abbrev pub runner : ℕ → Bool → Runner
runner p b = record { process = p; reading = b }

abbrev pub is_running : ℕ → List Runner → Bool
is_running p rs = list_any (λ r. r.process == p) rs

abbrev pub is_read_from : ℕ → List Runner → Bool
is_read_from p rs = list_any (λ r. r.process == p && r.reading) rs

abbrev pub some_read_from : List Runner → Bool
some_read_from rs = list_any (λ r. r.reading) rs

abbrev pub others : ℕ → List Runner → List Runner
others p rs = filter (λ r. not (r.process == p)) rs

-- after a call that talked with process p
abbrev pub settled : ℕ → Afterwards → List Runner → List Runner
settled p dies rs = others p rs
settled p lives rs = others p rs ++ runner p false ∷ []
settled p reads rs = others p rs ++ runner p true ∷ []

-- After a call that talked with none. What is given up is ended if its result is being read; all are closed if none's is; no other call changes anything.
abbrev pub untalked : Call → List Runner → List Runner
untalked (give_up p) rs = cond (is_read_from p rs) (others p rs) rs
untalked close_all rs = cond (some_read_from rs) rs []
untalked _ rs = rs

abbrev pub key_step : Call → Seen → List Runner → List Runner
key_step c s rs = option_map_or (λ p. settled p (afterwards (is_running p rs) c (decode s.given).packets s.ended) rs) s.talked_with (untalked c rs)

-- the key to calls, in order; it begins with no runner
abbrev pub key : List (Call × Seen) → List Runner → List Runner
key [] rs = rs
key (x ∷ xs) rs = key xs (key_step x.0 x.1 rs)

-- What it says

-- These runners are the open processes of a life, each once, and at most so many.
pub record Keyed (places : ℕ) (l : Life) (rs : List Runner) : Type 0 where
  pub runs : (p : ℕ) → is_open (process l.now.world p) ≡ is_running p rs
  pub once : (p : ℕ) → count_by (λ r. r.process == p) rs ≤ 1
  pub few : length rs ≤ places

-- so the key to what is seen of these turns tells what runs at their end; there are no more runners than the table has places
abbrev pub KeyFits : ℕ → List Turn → Life → Type 0
KeyFits capacity turns l = Keyed (length l.now.table) (run capacity turns l) (key (seen_calls capacity turns l) [])

-- after every list of calls, whatever the host leaves free
abbrev pub KeyStands : Type 0
KeyStands = (capacity : ℕ) (l : Life) → Begins l → (turns : List Turn) → KeyFits capacity turns l
