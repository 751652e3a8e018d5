-- A table's life: the table over its host, and the stories of the host's processes, as somebody beside them writes them down.
-- From docs/RULES.md, What is looked at.
use Rattle.std.specs.Prelude.{◌≡◌, ℕ, Bool, true, false, cond, List, [], ◌∷◌, ◌++◌, None, replicate, ◌==◌}
use Rattle.std.specs.List.{count_by}
use Rattle.host.specs.Worlds.{Process, gone, live, World}
use Rattle.host.specs.Talk.{Event}
use Rattle.records.specs.Records.{held}
use Rattle.rules.specs.Calls.{Call, Turn}
use Rattle.rules.specs.Answers.{Answer}
use Rattle.rules.specs.Steps.{State, state, Deed, starts, talks, ends, step}
use Rattle.rules.specs.Stories.{episode, Story}

-- the stories of all processes, by their numbers
abbrev pub Book : Type 0
Book = ℕ → Story

-- all bytes that came to wait at each process, in order: what waited at its start, and what its sends added
abbrev pub Ledger : Type 0
Ledger = ℕ → List ℕ

pub record Life : Type 0 where
  pub now : State
  pub book : Book
  pub ledger : Ledger

abbrev pub life : State → Book → Ledger → Life
life s b l = record { now = s; book = b; ledger = l }

-- a process has one episode more
abbrev pub with_episode : ℕ → Call → List Event → Answer → Book → Book
with_episode p c es a b = λ n. cond (n == p) (episode c es a ∷ b n) (b n)

-- what is written down of a call: each talk, with the call's answer
abbrev pub written : Call → Answer → List Deed → Book → Book
written c a [] b = b
written c a (starts command n ∷ ds) b = written c a ds b
written c a (talks p es bytes ∷ ds) b = with_episode p c es a (written c a ds b)
written c a (ends p how ∷ ds) b = written c a ds b

-- a process to which bytes came more
abbrev pub with_bytes : ℕ → List ℕ → Ledger → Ledger
with_bytes p bytes l = λ n. cond (n == p) (l n ++ bytes) (l n)

abbrev pub came : List Deed → Ledger → Ledger
came [] l = l
came (starts command n ∷ ds) l = came ds l
came (talks p es bytes ∷ ds) l = with_bytes p bytes (came ds l)
came (ends p how ∷ ds) l = came ds l

-- one call
abbrev pub turn : ℕ → Turn → Life → Life
turn capacity t l =
    let o = step capacity t l.now in
    life o.after (written t.call o.answer o.deeds l.book) (came o.deeds l.ledger)

-- calls, in order, refused ones included
abbrev pub run : ℕ → List Turn → Life → Life
run capacity [] l = l
run capacity (t ∷ ts) l = run capacity ts (turn capacity t l)

-- what each call answers
abbrev pub answers_of : ℕ → List Turn → Life → List Answer
answers_of capacity [] l = []
answers_of capacity (t ∷ ts) l = (step capacity t l.now).answer ∷ answers_of capacity ts (turn capacity t l)

-- what they all do with the host, the latest first
abbrev pub deeds_of : ℕ → List Turn → Life → List Deed
deeds_of capacity [] l = []
deeds_of capacity (t ∷ ts) l = deeds_of capacity ts (turn capacity t l) ++ (step capacity t l.now).deeds

abbrev pub is_open : Process → Bool
is_open gone = false
is_open (live q) = true

-- a table of eight free places over a host, and nothing written down
abbrev pub first_life : World → Life
first_life w = life (state (replicate 8 None) w) (λ p. []) (λ p. [])

-- an empty table over a host with no process open, and nothing written down yet
pub record Begins (l : Life) : Type 0 where
  pub empty : held l.now.table ≡ []
  pub none_open : count_by is_open l.now.world.procs ≡ 0
  pub unwritten : (p : ℕ) → l.book p ≡ []
  pub none_came : (p : ℕ) → l.ledger p ≡ []
