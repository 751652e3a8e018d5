-- What a request asks, and how it is stored: the command and each pair's key and value one behind the other over the front of a text area, and a row for
-- each pair over the front of the rows.
-- From docs/PROTOCOL.md, A request.
use Rattle.std.specs.Prelude.{◌≡◌, ℕ, ◌+◌, ◌≤◌, Bool, true, false, ◌&&◌, List, [], ◌∷◌, ◌++◌, map, length, take, Some, None, Option, nat_le, nat_lt}
use Rattle.slices.specs.Held.{rows_over}
use Rattle.slices.specs.Parts.{part}
use Rattle.packetline.specs.Packets.{over}
use Rattle.requests.specs.declared.asked.Asked.{Asked}
use Rattle.requests.specs.declared.asked.MetaRow.{MetaRow}

-- a key and a value
abbrev pub Pair : Type 0
Pair = List ℕ × List ℕ

-- a command with its metadata
pub record Request : Type 0 where
  pub command : List ℕ
  pub pairs : List Pair

abbrev pub request : List ℕ → List Pair → Request
request c ps = record { command = c; pairs = ps }

-- with one pair more
abbrev pub and_pair : Request → Pair → Request
and_pair q p = request q.command (q.pairs ++ p ∷ [])

-- keys and values, one behind the other
abbrev pub meta_bytes : List Pair → List ℕ
meta_bytes [] = []
meta_bytes (p ∷ ps) = p.0 ++ (p.1 ++ meta_bytes ps)

-- what the text area holds of a request
abbrev pub bytes_of : Request → List ℕ
bytes_of q = q.command ++ meta_bytes q.pairs

-- how many bytes that is
abbrev pub used : Request → ℕ
used q = length (bytes_of q)

-- the row of a pair whose key lies from a place on, and its value behind it
abbrev pub row_of : ℕ → Pair → MetaRow
row_of at p = record { key = record { at = at; len = length p.0 }; value = record { at = at + length p.0; len = length p.1 } }

-- a row for each pair, one behind the other
abbrev pub rows_of : ℕ → List Pair → List MetaRow
rows_of at [] = []
rows_of at (p ∷ ps) = row_of at p ∷ rows_of (at + length p.0 + length p.1) ps

-- one pair more finds a row and room
abbrev pub has_space : ℕ → ℕ → Request → Pair → Bool
has_space rows room q p = nat_lt (length q.pairs) rows && nat_le (used (and_pair q p)) room

-- the length of a request's command, and how many pairs it has
abbrev pub counts_of : Request → Asked
counts_of q = record { command = length q.command; pairs = length q.pairs }

-- the pair that a row shows
abbrev pub pair_at : List ℕ → MetaRow → Pair
pair_at text row = (part text row.key, part text row.value)

-- the request that rows and text area show to who knows those two numbers
abbrev pub request_at : List MetaRow → List ℕ → Asked → Request
request_at rows text a = request (take a.command text) (map (pair_at text) (take a.pairs rows))

-- a request lies over the front of rows and text area, which have the space; what is behind stays
pub record Holds (q : Request) (rows : List MetaRow) (text : List ℕ) (rows' : List MetaRow) (text' : List ℕ) : Type 0 where
  pub rows_are : rows' ≡ rows_over (rows_of (length q.command) q.pairs) rows
  pub text_is : text' ≡ over (bytes_of q) text
  pub rows_for : length q.pairs ≤ length rows
  pub room_for : used q ≤ length text

-- What is promised of the parts of the code

-- while a request is read: so much of it is stored, so many rows are held, and there goes the next pair
pub record Keeping (q : Request) (rows : List MetaRow) (text : List ℕ) (rows' : List MetaRow) (count : ℕ) (text' : List ℕ) (at : ℕ) : Type 0 where
  pub holds : Holds q rows text rows' text'
  pub counted : count ≡ length q.pairs
  pub place : at ≡ used q

-- bytes are laid behind those that lie over the front of an area, whatever these are
abbrev pub LaysBehind : ℕ → List ℕ → List ℕ → List ℕ → Type 0
LaysBehind at text bytes text' = (front area : List ℕ) → at ≡ length front → text ≡ over front area → text' ≡ over (front ++ bytes) area

-- a pair that finds space is stored, and of one that does not nothing is
abbrev pub PairKept : Request → List MetaRow → List ℕ → Pair → ℕ → Option ℕ → List MetaRow → ℕ → List ℕ → Type 0
PairKept q space area p at (Some behind) rows count text = (has_space (length space) (length area) q p ≡ true) × Keeping (and_pair q p) space area rows count text behind
PairKept q space area p at None rows count text = (has_space (length space) (length area) q p ≡ false) × Keeping q space area rows count text at

-- so it is with one pair more, whatever was stored before
abbrev pub StoresPair : ℕ → List MetaRow → ℕ → List ℕ → Pair → Option ℕ → List MetaRow → ℕ → List ℕ → Type 0
StoresPair at rows count text p result rows' count' text' =
    (q : Request) (space : List MetaRow) (area : List ℕ) → Keeping q space area rows count text at → PairKept q space area p at result rows' count' text'
