-- What a script host means: each started process plays the bytes of its row.
-- From docs/HOST.md, Hosts that are built.
use Rattle.std.specs.Prelude.{◌≡◌, ℕ, List, map, take, is_some, Some, None, Ok, Err, Option, Result, slice_index_or, slice_set}
use Rattle.slices.specs.declared.name.OutsideLimits.{OutsideLimits}
use Rattle.host.specs.declared.fault.NotStarted.{NotStarted}
use Rattle.scripts.specs.declared.script.Row.{Row}
use Rattle.scripts.specs.declared.script.Script.{Script}
use Rattle.scripts.specs.Rows.{pipe, played, first_of, places}
use Rattle.host.specs.Worlds.{live, World, process}

-- the first count places are the processes in the order of their starts; a command can be started exactly if an unused row has it
abbrev pub script_world : List ℕ → List (Option Row) → List (Option Row) → ℕ → World
script_world bytes unused started count =
    record { procs = map (played bytes) (take count started); startable = λ command. is_some (first_of bytes command unused) }

abbrev pub world_of : Script → World
world_of s = script_world s.bytes.now s.unused s.started s.count

-- a new script will play these rows over these bytes
abbrev pub Holds : List ℕ → List Row → Result Script OutsideLimits → Type 0
Holds bytes rows (Ok s) = (s.bytes.now ≡ bytes) × (s.unused ≡ places rows)
Holds bytes rows (Err _) = Unit {0}

-- the unused rows and the bytes stay
abbrev pub Keeps : Script → Script → Type 0
Keeps s s' = (s'.bytes.now ≡ s.bytes.now) × (s'.unused ≡ s.unused)

-- What a start plays: the first unused row of the command, and only that row is used then. A refusal uses none.
abbrev pub Plays : Script → List ℕ → Result ℕ NotStarted → Script → Type 0
Plays s command (Ok n) s' =
    (i : ℕ) × (row : Row)
    × ((first_of s.bytes.now command s.unused ≡ Some i) × (slice_index_or s.unused i None ≡ Some row)
    × (process (world_of s') n ≡ live (pipe s.bytes.now row)) × (s'.bytes.now ≡ s.bytes.now) × (s'.unused ≡ slice_set s.unused i None))
Plays s command (Err _) s' = Keeps s s'
