-- The four functions of a host, by what they answer and leave, and the log of what was asked of it.
-- From docs/HOST.md, The four functions and The log.
use Rattle.std.specs.Prelude.{◌≡◌, ℕ, ◌-◌, ◌<◌, ◌≤◌, Bool, true, false, cond, ◌&&◌, List, [], ◌∷◌, ◌++◌, length, take, Some, Ok, Err, Option, Result, nat_le, nat_lt, slice_set}
use Rattle.packetline.specs.Packets.{over}
use Rattle.host.specs.declared.fault.NotStarted.{NotStarted}
use Rattle.host.specs.declared.fault.Fault.{Fault}
use Rattle.host.specs.declared.fault.Fault.TheVariants.{Broken}
use Rattle.host.specs.declared.host.How.{How}
use Rattle.host.specs.Faults.{snag_fault}
use Rattle.host.specs.Worlds.{Reply, reply_of, replies_after, Pipe, Process, gone, live, World, process, with_process, waits, taken, stop}

-- a command can be started if the host says so and its list has a place left
abbrev pub can_start : ℕ → World → List ℕ → Bool
can_start capacity w command = w.startable command && nat_lt (length w.procs) capacity

-- One open process more, of which nothing else is said; what can be started next is free. A refusal changes nothing.
abbrev pub Started : ℕ → World → List ℕ → Result ℕ NotStarted → World → Type 0
Started capacity w command (Ok n) w' =
    (can_start capacity w command ≡ true) × (n ≡ length w.procs) × ((q : Pipe) × (w'.procs ≡ w.procs ++ live q ∷ []))
Started capacity w command (Err _) w' = (can_start capacity w command ≡ false) × (w' ≡ w)

-- The first n bytes that wait move to the front of the area: n is free, from 1 to the area's length, and at most what waits; an empty area gets
-- none. Where nothing waits the ending is met and nothing changes.
abbrev pub Received : World → ℕ → List ℕ → Result ℕ Fault → World → List ℕ → Type 0
Received w p area (Ok n) w' area' =
    (n ≤ length area) × (n ≤ length (waits w p)) × (0 < length area → 0 < n) × (w' ≡ taken w p n) × (area' ≡ over (take n (waits w p)) area)
Received w p area (Err f) w' area' = (0 < length area) × (waits w p ≡ []) × (f ≡ stop w p) × (w' ≡ w) × (area' ≡ area)

abbrev pub some_wait : List ℕ → Bool
some_wait [] = false
some_wait (x ∷ xs) = true

-- what a send of n bytes answers
abbrev pub refusal_of : Process → ℕ → Result (Unit {0}) Fault
refusal_of gone n = Err Broken
refusal_of (live q) n = cond (nat_le n q.allowance) (Ok tt) (Err (snag_fault q.snag))

-- an open process after it took these bytes: its allowance falls, and its reply joins what waits; later is its next reply where that is free
abbrev pub pipe_after : Pipe → List ℕ → Reply → Pipe
pipe_after q bytes later =
    record q {
      waiting = q.waiting ++ reply_of q.replies bytes (some_wait q.waiting);
      allowance = q.allowance - length bytes;
      replies = replies_after q.replies bytes (some_wait q.waiting) later;
    }

-- the process after a send; a refusal changes nothing
abbrev pub sent_to : Process → List ℕ → Reply → Process
sent_to gone bytes later = gone
sent_to (live q) bytes later = cond (nat_le (length bytes) q.allowance) (live (pipe_after q bytes later)) (live q)

abbrev pub sent : World → ℕ → List ℕ → Reply → World
sent w p bytes later = with_process w p (sent_to (process w p) bytes later)

pub record Sent (w : World) (p : ℕ) (bytes : List ℕ) (r : Result (Unit {0}) Fault) (w' : World) : Type 0 where
  pub answer : r ≡ refusal_of (process w p) (length bytes)
  pub later : Reply
  pub after : w' ≡ sent w p bytes later

-- An open process is not open any more, and what can be started next is free; on another process nothing changes at all.
pub record Ended (w : World) (p : ℕ) (w' : World) : Type 0 where
  pub closes : (q : Pipe) → process w p ≡ live q → w'.procs ≡ slice_set w.procs p gone
  pub stays : process w p ≡ gone → w' ≡ w

-- what is asked of a host, with its answer
pub data Act : Type 0 where
  starting : List ℕ → Result ℕ NotStarted → Act
  taking : ℕ → Result (List ℕ) Fault → Act
  sending : ℕ → List ℕ → Result (Unit {0}) Fault → Act
  ending : ℕ → How → Act

-- what a host has logged, the latest first, if it keeps a log that never filled
abbrev pub Log : Type 0
Log = Option (List Act)

-- where there is a log afterwards there was one before, and these acts are what it grew by
abbrev pub Grows : Log → List Act → Log → Type 0
Grows before acts after = (l : List Act) → after ≡ Some l → (k : List Act) × (before ≡ Some k) × (l ≡ acts ++ k)

-- what a receive brought
abbrev pub came : Result ℕ Fault → List ℕ → Result (List ℕ) Fault
came (Ok n) area = Ok (take n area)
came (Err f) area = Err f
