-- What a call on a table promises: it is one step of the table, over the host that it was made on.
use Rattle.std.specs.Prelude.{◌≡◌, ℕ, Bool, List, [], ◌∷◌, ◌++◌, map, Some, None, Ok, Err}
use Rattle.std.specs.List.{count_by}
use Rattle.host.specs.declared.fault.NotStarted.{NotStarted}
use Rattle.host.specs.Acts.{Act, starting, ending, Grows}
use Rattle.host.specs.Talk.{Event, Areas, lay, Acted, Sight}
use Rattle.host.specs.Worlds.{World}
use Rattle.records.specs.Places.{Place}
use Rattle.rules.specs.Calls.{Call, Turn}
use Rattle.rules.specs.Answers.{Answer}
use Rattle.rules.specs.Steps.{state, Deed, starts, talks, ends, step}
use Rattle.rules.specs.Lives.{Life, run, answers_of, deeds_of, is_open, first_life, Begins}
use Rattle.rules.specs.Rules.{Rules, Honest}
use Rattle.rules.specs.Key.{KeyFits}

-- these acts of a host, the latest first, are those deeds
abbrev pub Done : List Deed → List Act → Type 0
Done [] acts = acts ≡ []
Done (starts command (Some n) ∷ ds) acts = (rest : List Act) × (acts ≡ starting command (Ok n) ∷ rest) × Done ds rest
Done (starts command None ∷ ds) acts = (e : NotStarted) × ((rest : List Act) × (acts ≡ starting command (Err e) ∷ rest) × Done ds rest)
Done (talks p es bytes ∷ ds) acts = (own : List Act) × ((rest : List Act) × (acts ≡ own ++ rest) × Acted p es own × Done ds rest)
Done (ends p how ∷ ds) acts = (rest : List Act) × (acts ≡ ending p how ∷ rest) × Done ds rest

-- what passed, the latest first; a call talks with one process at most
abbrev pub passes : List Deed → List Event
passes [] = []
passes (starts command n ∷ ds) = passes ds
passes (talks p es bytes ∷ ds) = es ++ passes ds
passes (ends p how ∷ ds) = passes ds

-- What stands at the end of a life of these turns: the three rules; the books are honest; and the key tells which processes run.
pub record Stands (capacity : ℕ) (turns : List Turn) (l : Life) : Type 0 where
  pub rules : Rules (run capacity turns l)
  pub books : Honest (run capacity turns l)
  pub key : KeyFits capacity turns l

-- A life of these turns goes on by one more: that answers r and leads to this table and this host, where all of this stands.
pub record GoesOn (capacity : ℕ) (l : Life) (turns : List Turn) (t : Turn) (r : Answer) (table' : List Place) (w' : World) : Type 0 where
  pub answers : answers_of capacity (turns ++ t ∷ []) l ≡ answers_of capacity turns l ++ r ∷ []
  pub reaches : (run capacity (turns ++ t ∷ []) l).now ≡ state table' w'
  pub stands : Stands capacity (turns ++ t ∷ []) l

-- A call answered r: there is a turn of this call, with areas as long as these are, whose step gives this answer, this table and this host, lays the areas
-- as the overlay rule leaves them, and did what the host's log, if it keeps one, has grown by. So any life that reached the table and the host before
-- goes on, by this turn, to one that reached them after.
pub record IsStep (capacity : ℕ) (c : Call) (has_room : Bool) (table : List Place) (w : Sight) (a : Areas) (r : Answer) (table' : List Place) (w' : Sight) (a' : Areas) : Type 0 where
  pub turn : Turn
  pub is_of : turn.call ≡ c
  pub room_is : turn.has_room ≡ has_room
  pub answers : (step capacity turn (state table w.world)).answer ≡ r
  pub reaches : (step capacity turn (state table w.world)).after ≡ state table' w'.world
  pub laid : a' ≡ lay (passes (step capacity turn (state table w.world)).deeds) a
  pub acts : List Act
  pub done : Done (step capacity turn (state table w.world)).deeds acts
  pub grows : Grows w.log acts w'.log
  pub goes_on : (l : Life) → Begins l → (turns : List Turn) → (run capacity turns l).now ≡ state table w.world → GoesOn capacity l turns turn r table' w'.world

-- Calls were worked off on an empty table, one behind the other, with areas that have room or have not, and answered so: there are turns of exactly these
-- calls with exactly these answers that lead to exactly this table and this host, lay the areas as the overlay rule leaves them, and did what the host's
-- log, if it keeps one, has grown by. Where no process was open at the beginning all of this stands there.
pub record IsLife (capacity : ℕ) (calls : List Call) (has_room : Bool) (w : Sight) (a : Areas) (rs : List Answer) (table' : List Place) (w' : Sight) (a' : Areas) : Type 0 where
  pub turns : List Turn
  pub are : map (λ t. t.call) turns ≡ calls
  pub rooms_are : map (λ t. t.has_room) turns ≡ map (λ _. has_room) calls
  pub answers : answers_of capacity turns (first_life w.world) ≡ rs
  pub reaches : (run capacity turns (first_life w.world)).now ≡ state table' w'.world
  pub laid : a' ≡ lay (passes (deeds_of capacity turns (first_life w.world))) a
  pub acts : List Act
  pub done : Done (deeds_of capacity turns (first_life w.world)) acts
  pub grows : Grows w.log acts w'.log
  pub stands : count_by is_open w.world.procs ≡ 0 → Stands capacity turns (first_life w.world)
