-- A list of calls, worked off from an empty table.
use Rattle.std.specs.Prelude.{◌≡◌, ℕ, Bool, List, [], ◌∷◌, map, length, Some}
use Rattle.slices.specs.Held.{rows_over}
use Rattle.packetline.specs.Packets.{over}
use Rattle.host.specs.Talk.{Areas, Sight, bytes_given}
use Rattle.client.specs.declared.paths.PathRow.{PathRow}
use Rattle.client.specs.Listings.{named_in}
use Rattle.client.specs.Paths.{fitting, rows_of}
use Rattle.host.specs.Parts.{joined}
use Rattle.records.specs.Places.{Place}
use Rattle.rules.specs.Answers.{Answer}
use Rattle.rules.specs.Calls.{Call, list, Turn}
use Rattle.rules.specs.Lives.{Life, turn, first_life}
use Rattle.rules.specs.Promises.{passes, IsStep, IsLife}
use Rattle.rules.specs.Steps.{state, step}
use Rattle.exchange.specs.declared.call.Entry.{Entry}
use Rattle.exchange.specs.Values.{call_of, answered, blanked}

-- What listings are lent

-- rows, and a text area
pub record Space : Type 0 where
  pub rows : List PathRow
  pub text : List ℕ

abbrev pub space : List PathRow → List ℕ → Space
space rows text = record { rows = rows; text = text }

-- a listing's paths lie over them, as far as they fit; any other call leaves them as they were
abbrev pub space_after : Call → List (List ℕ) → Space → Space
space_after (list k rows room) named s = space (rows_over (rows_of 0 (fitting rows room named)) s.rows) (over (joined (fitting rows room named)) s.text)
space_after _ named s = s

-- the paths that were named in a turn
abbrev pub named_by : ℕ → Turn → Life → List (List ℕ)
named_by capacity t l = named_in (bytes_given (passes (step capacity t l.now).deeds))

-- after turns
abbrev pub space_of : ℕ → List Turn → Life → Space → Space
space_of capacity [] l s = s
space_of capacity (t ∷ ts) l s = space_of capacity ts (turn capacity t l) (space_after t.call (named_by capacity t l) s)

-- one call: a step, and what it left in the space that listings are lent
pub record IsMade (capacity : ℕ) (c : Call) (has_room : Bool) (table : List Place) (w : Sight) (a : Areas) (s : Space) (r : Answer) (table' : List Place) (w' : Sight) (a' : Areas) (s' : Space) : Type 0 where
  pub goes : IsStep capacity c has_room table w a r table' w' a'
  pub lent : s' ≡ space_after c (named_in (bytes_given (passes (step capacity goes.turn (state table w.world)).deeds))) s

-- The calls of these entries were worked off, in order, on an empty table: there is a life of exactly these calls, with areas that have room or have not,
-- that led to exactly this table and this host, in which the rules stand, the books are honest and the key fits; each entry has the answer that its call
-- had in that life, and the areas, rows and text are as that life leaves them.
pub record IsRun (capacity : ℕ) (has_room : Bool) (entries : List Entry) (w : Sight) (a : Areas) (s : Space) (entries' : List Entry) (table' : List Place) (w' : Sight) (a' : Areas) (s' : Space) : Type 0 where
  pub answers : List Answer
  pub life : IsLife capacity (map (λ e. call_of (length s.rows) (length s.text) e.call) entries) has_room w a answers table' w' a'
  pub lent : s' ≡ space_of capacity life.turns (first_life w.world) s
  pub told : map answered entries' ≡ map (λ r. Some (blanked r)) answers
  pub same_calls : map (λ e. e.call) entries' ≡ map (λ e. e.call) entries
