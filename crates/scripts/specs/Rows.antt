-- What the rows of a script mean: parts of one byte string, and processes that play them.
-- From docs/HOST.md, Hosts that are built.
use Rattle.std.specs.Prelude.{ℕ, ◌+◌, ◌-◌, Bool, false, ◌&&◌, List, [], ◌++◌, map, length, replicate, is_some, Some, None, Option, nat_le}
use Rattle.std.specs.List.{list_all}
use Rattle.std.specs.Str.{bytes_eq}
use Rattle.slices.specs.declared.part.Part.{Part}
use Rattle.slices.specs.First.{first_from}
use Rattle.slices.specs.Parts.{part}
use Rattle.scripts.specs.declared.script.Row.{Row}
use Rattle.host.specs.Worlds.{known, Pipe, Process, gone, live, World}

-- a part that lies within the first n bytes
abbrev pub within : ℕ → Part → Bool
within n p = nat_le (p.at + p.len) n

-- a row whose two parts lie within the first n bytes
abbrev pub row_within : ℕ → Row → Bool
row_within n row = within n row.command && within n row.plays

-- at most 16 rows, each within the bytes
abbrev pub is_script : List ℕ → List Row → Bool
is_script bytes rows = nat_le (length rows) 16 && list_all (row_within (length bytes)) rows

-- a row of this command
abbrev pub row_of : List ℕ → List ℕ → Row → Bool
row_of bytes command row = bytes_eq (part bytes row.command) command

-- a place that has a row of this command
abbrev pub place_of : List ℕ → List ℕ → Option Row → Bool
place_of bytes command None = false
place_of bytes command (Some row) = row_of bytes command row

-- the first place that has a row of this command
abbrev pub first_of : List ℕ → List ℕ → List (Option Row) → Option ℕ
first_of bytes command places = first_from (place_of bytes command) 0 places

-- the process that plays a row: the row's bytes wait, and it never replies
abbrev pub pipe : List ℕ → Row → Pipe
pipe bytes row = record { waiting = part bytes row.plays; ending = row.ending; allowance = row.allowance; snag = row.snag; replies = known (λ _ _ _. []) }

-- a started process plays what is left of its row, or is not open
abbrev pub played : List ℕ → Option Row → Process
played bytes None = gone
played bytes (Some row) = live (pipe bytes row)

-- a new script: nothing is started, and exactly the rows' commands can be
abbrev pub opening : List ℕ → List Row → World
opening bytes rows = record { procs = []; startable = λ command. is_some (first_from (row_of bytes command) 0 rows) }

-- rows in places of their own, the first first
abbrev pub places : List Row → List (Option Row)
places rows = map Some rows ++ replicate (16 - length rows) None
