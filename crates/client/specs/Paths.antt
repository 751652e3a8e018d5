-- The paths that a listing names, and where they are stored.
-- From docs/PROTOCOL.md, A listing.
use Rattle.std.specs.Prelude.{◌≡◌, ℕ, ◌+◌, ◌-◌, ◌^◌, ◌<◌, ◌≤◌, min, cond, ◌&&◌, ◌⊎◌, List, [], ◌∷◌, ◌++◌, length, take, drop, Some, None, Option, ◌==◌, nat_le, nat_lt, slice_index_or}
use Rattle.slices.specs.Held.{rows_over}
use Rattle.packetline.specs.Packets.{Pkt, flush, delimiter, response_end, line, over}
use Rattle.packetline.specs.Lines.{Kind, status, capability, version, pathname, other, kind_of}
use Rattle.host.specs.Parts.{joined}
use Rattle.client.specs.declared.paths.Kept.{Kept}
use Rattle.client.specs.declared.paths.PathRow.{PathRow}

-- bytes less one LF at their end
abbrev pub less_lf : List ℕ → List ℕ
less_lf [] = []
less_lf (b ∷ []) = cond (b == 10) [] (b ∷ [])
less_lf (b ∷ c ∷ bs) = b ∷ less_lf (c ∷ bs)

-- the path in a `pathname=` line
abbrev pub path_in : Kind → Option (List ℕ)
path_in (status s) = None
path_in (capability s) = None
path_in (version s) = None
path_in (pathname s) = Some (less_lf s)
path_in (other l) = None

abbrev pub listed : Option (List ℕ) → List (List ℕ)
listed None = []
listed (Some path) = path ∷ []

-- the paths that packets name, up to the first flush; markers and other lines are skipped
abbrev pub paths_named : List Pkt → List (List ℕ)
paths_named [] = []
paths_named (flush ∷ ps) = []
paths_named (delimiter ∷ ps) = paths_named ps
paths_named (response_end ∷ ps) = paths_named ps
paths_named (line l ∷ ps) = listed (path_in (kind_of l)) ++ paths_named ps

-- the first of the paths, up to one that finds no row or no room
abbrev pub fitting : ℕ → ℕ → List (List ℕ) → List (List ℕ)
fitting rows room [] = []
fitting rows room (p ∷ ps) = cond (nat_le 1 rows && nat_le (length p) room) (p ∷ fitting (rows - 1) (room - length p) ps) []

-- a row for each path, one behind the other from a place on
abbrev pub rows_of : ℕ → List (List ℕ) → List PathRow
rows_of at [] = []
rows_of at (p ∷ ps) = record { at = at; len = length p } ∷ rows_of (at + length p) ps

-- the part of a text area at a row
abbrev pub part_at : PathRow → List ℕ → List ℕ
part_at row text = take row.len (drop row.at text)

-- The stored paths are the first of the named ones and have space in rows and room; where a path is left over, it found no row or no room.
pub record FirstOf (named : List (List ℕ)) (rows room : ℕ) (stored : List (List ℕ)) : Type 0 where
  pub left : List (List ℕ)
  pub are : named ≡ stored ++ left
  pub rows_for : length stored ≤ rows
  pub room_for : length (joined stored) ≤ room
  pub no_space : (p : List ℕ) (ps : List (List ℕ)) → left ≡ p ∷ ps → (length stored ≡ rows) ⊎ (room < length (joined stored) + length p)

-- What is stored are, in order, the paths that were named, as far as there is space: up to the first that finds no row or no room.
pub record Stored (named : List (List ℕ)) (rows : List PathRow) (text : List ℕ) (stored : ℕ) (rows' : List PathRow) (text' : List ℕ) : Type 0 where
  pub count : stored ≡ length (fitting (length rows) (length text) named)
  pub rows_are : rows' ≡ rows_over (rows_of 0 (fitting (length rows) (length text) named)) rows
  pub text_is : text' ≡ over (joined (fitting (length rows) (length text) named)) text
  pub first : FirstOf named (length rows) (length text) (fitting (length rows) (length text) named)
  pub places : (k : ℕ) → k < stored → part_at (slice_index_or rows' k (record { at = 0; len = 0 })) text' ≡ slice_index_or (fitting (length rows) (length text) named) k []

-- a count of paths goes to 2^64 - 1 and stays there
abbrev pub most : ℕ → ℕ
most n = min n (2 ^ 64 - 1)

-- where the next path goes: behind those that are stored, unless one of the paths named so far found no space
abbrev pub next_place : ℕ → ℕ → List (List ℕ) → Option ℕ
next_place rows room named = cond (nat_lt (length (fitting rows room named)) (length named)) None (Some (length (joined (fitting rows room named))))

-- What a listing keeps while it reads, where the paths were named so far: what is stored of them, how many they are, and where the next one goes.
pub record Keeping (named : List (List ℕ)) (rows : List PathRow) (text : List ℕ) (kept : Kept) (rows' : List PathRow) (count : ℕ) (text' : List ℕ) : Type 0 where
  pub stored_so_far : Stored named rows text count rows' text'
  pub counted : kept.named ≡ most (length named)
  pub next_is : kept.next ≡ next_place (length rows) (length text) named

-- one path more, whatever was named before
abbrev pub KeepsPath : Option ℕ → List PathRow → ℕ → List ℕ → List ℕ → Option ℕ → List PathRow → ℕ → List ℕ → Type 0
KeepsPath next rows count text path next' rows' count' text' =
    (named : List (List ℕ)) (space : List PathRow) (area : List ℕ) (n : ℕ) → Keeping named space area (record { named = n; next = next }) rows count text
    → Keeping (named ++ path ∷ []) space area (record { named = most (n + 1); next = next' }) rows' count' text'

-- one line more, whatever was named before
abbrev pub KeepsLine : Kept → List PathRow → ℕ → List ℕ → Option (List ℕ) → Kept → List PathRow → ℕ → List ℕ → Type 0
KeepsLine kept rows count text path kept' rows' count' text' =
    (named : List (List ℕ)) (space : List PathRow) (area : List ℕ) → Keeping named space area kept rows count text → Keeping (named ++ listed path) space area kept' rows' count' text'
