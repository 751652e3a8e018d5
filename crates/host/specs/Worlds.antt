-- What a host means: the processes that it started, in order, and which commands it can start now.
-- From docs/HOST.md, The meaning.
use Rattle.std.specs.Prelude.{◌≡◌, ℕ, Bool, List, [], ◌∷◌, drop, slice_index_or, slice_set}
use Rattle.host.specs.declared.fault.Fault.{Fault}
use Rattle.host.specs.declared.fault.Fault.TheVariants.{Broken}
use Rattle.host.specs.declared.fault.Snag.{Snag}

-- what a process adds to its waiting bytes at a send that it takes, by the bytes sent and by whether bytes wait then
abbrev pub Reply : Type 0
Reply = List ℕ → Bool → List ℕ

-- a send that a process took: the bytes sent, and whether bytes waited then
pub record Said : Type 0 where
  pub bytes : List ℕ
  pub waited : Bool

abbrev pub said : List ℕ → Bool → Said
said bytes waited = record { bytes = bytes; waited = waited }

-- what a process adds at its sends to come
pub data Replies : Type 0 where
  -- at its next one; those after it are free
  next : Reply → Replies
  -- at all of them: after these sends, the first one first, at the one that follows
  known : (List Said → Reply) → Replies

-- the reply to the next send
abbrev pub reply_of : Replies → Reply
reply_of (next r) = r
reply_of (known k) = k []

-- the replies to come after a send; later is the next of them where that is free
abbrev pub replies_after : Replies → List ℕ → Bool → Reply → Replies
replies_after (next r) bytes waited later = next later
replies_after (known k) bytes waited later = known (λ sends. k (said bytes waited ∷ sends))

-- an open process: the bytes that wait, what is met when none waits, how many bytes it still takes, what is met beyond that, and its replies to come
pub record Pipe : Type 0 where
  pub waiting : List ℕ
  pub ending : Fault
  pub allowance : ℕ
  pub snag : Snag
  pub replies : Replies

-- of a process that is not open only its place is kept
pub data Process : Type 0 where
  gone : Process
  live : Pipe → Process

-- nothing that a process will reply is free: all is known, or it is not open
abbrev pub Known : Process → Type 0
Known gone = Unit {0}
Known (live q) = (k : List Said → Reply) × (q.replies ≡ known k)

pub record World : Type 0 where
  pub procs : List Process
  pub startable : List ℕ → Bool

-- process p; one that was never started is not open
abbrev pub process : World → ℕ → Process
process w p = slice_index_or w.procs p gone

-- the world where process p is another, and all else as it was
abbrev pub with_process : World → ℕ → Process → World
with_process w p q = record { procs = slice_set w.procs p q; startable = w.startable }

abbrev pub waiting_of : Process → List ℕ
waiting_of gone = []
waiting_of (live q) = q.waiting

-- the bytes that wait at process p
abbrev pub waits : World → ℕ → List ℕ
waits w p = waiting_of (process w p)

-- the process where other bytes wait
abbrev pub waiting_now : List ℕ → Process → Process
waiting_now ws gone = gone
waiting_now ws (live q) = live (record q { waiting = ws })

-- the process without the first n bytes that wait
abbrev pub less : ℕ → Process → Process
less n q = waiting_now (drop n (waiting_of q)) q

abbrev pub taken : World → ℕ → ℕ → World
taken w p n = with_process w p (less n (process w p))

-- what a receive answers where nothing waits: 12 where the process is not open
abbrev pub stop_of : Process → Fault
stop_of gone = Broken
stop_of (live q) = q.ending

abbrev pub stop : World → ℕ → Fault
stop w p = stop_of (process w p)
