-- The calls of a table, with all that a caller says in one, and what a host leaves free in it.
-- From docs/TABLE.md, The calls.
use Rattle.std.specs.Prelude.{ℕ, Bool, true, false, ◌&&◌, List, Option}
use Rattle.std.specs.Option.{option_map_or}
use Rattle.host.specs.Worlds.{Pipe}
use Rattle.host.specs.Talk.{Later}
use Rattle.records.specs.declared.context.Delay.{Delay}
use Rattle.records.specs.declared.context.Delay.TheVariants.{Allow, Forbid}
use Rattle.records.specs.declared.id.ObjectId.{ObjectId}
use Rattle.records.specs.declared.key.Key.{Key}
use Rattle.records.specs.declared.operation.Operation.{Operation}
use Rattle.records.specs.Limits.{is_path, is_ref_name}

-- what an apply asks for: a path, what is known of where its content comes from, whether the process may answer later, and the content
pub record Asked : Type 0 where
  pub rela_path : List ℕ
  pub ref_name : Option (List ℕ)
  pub treeish : Option ObjectId
  pub blob : Option ObjectId
  pub delay : Delay
  pub content : List ℕ

abbrev pub may_delay : Delay → Bool
may_delay Allow = true
may_delay Forbid = false

pub data Call : Type 0 where
  apply : Key → Operation → Asked → Call
  -- what was delayed, by its path
  fetch : Key → Operation → List ℕ → Call
  -- which paths can be fetched: so many rows are lent for them, and a text area so long
  list : Key → ℕ → ℕ → Call
  -- a result by the number of its process
  read : ℕ → Call
  give_up : ℕ → Call
  close_all : Call

-- what an apply may ask; ids are such by their type
abbrev pub asks_within : Asked → Bool
asks_within a = is_path a.rela_path && option_map_or is_ref_name a.ref_name true

-- a call whose arguments are within their limits; a key is one by its type
abbrev pub is_within : Call → Bool
is_within (apply k op a) = asks_within a
is_within (fetch k op path) = is_path path
is_within (list k rows room) = true
is_within (read p) = true
is_within (give_up p) = true
is_within close_all = true

-- a call that is lent areas
abbrev pub needs_areas : Call → Bool
needs_areas (apply k op a) = true
needs_areas (fetch k op path) = true
needs_areas (list k rows room) = true
needs_areas (read p) = true
needs_areas (give_up p) = false
needs_areas close_all = false

-- A call with what is free in it: whether the lent areas are long enough, which is the caller's; and what the host does as it likes.
pub record Turn : Type 0 where
  pub call : Call
  pub has_room : Bool
  -- the process that a start adds, and what can be started after it
  pub newcomer : Pipe
  pub startable_then : List ℕ → Bool
  -- what can be started after a process was ended
  pub startable_last : List ℕ → Bool
  -- the reply that each send leaves behind for the next
  pub later : Later
