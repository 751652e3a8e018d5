-- A listing as a table's call: the step, and the paths that the caller's rows and text area hold then.
use Rattle.std.specs.Prelude.{ℕ, Bool, List}
use Rattle.host.specs.Talk.{Areas, Sight, bytes_given}
use Rattle.client.specs.declared.paths.PathRow.{PathRow}
use Rattle.client.specs.Listings.{named_in}
use Rattle.client.specs.Paths.{Stored}
use Rattle.records.specs.Places.{Place}
use Rattle.rules.specs.Calls.{Call}
use Rattle.rules.specs.Answers.{Answer}
use Rattle.rules.specs.Steps.{state, step}
use Rattle.rules.specs.Promises.{passes, IsStep}

-- on every outcome the paths named in what was given are stored, as far as there is space
pub record ListsStep (capacity : ℕ) (c : Call) (has_room : Bool) (table : List Place) (w : Sight) (a : Areas) (rows : List PathRow) (text : List ℕ) (r : Answer) (table' : List Place) (w' : Sight) (a' : Areas) (rows' : List PathRow) (text' : List ℕ) : Type 0 where
  pub goes : IsStep capacity c has_room table w a r table' w' a'
  pub many : ℕ
  pub stores : Stored (named_in (bytes_given (passes (step capacity goes.turn (state table w.world)).deeds))) rows text many rows' text'
