-- A listing: the process names the paths that it can answer now.
-- From gitattributes, long running filter process (`list_available_blobs`); docs/PROTOCOL.md, A listing.
use Rattle.std.specs.Prelude.{◌≡◌, ℕ, Bool, true, false, not, List, [], ◌∷◌, ◌++◌, length, is_some, Ok, Err, codes, Result, nat_lt}
use Rattle.slices.specs.Answers.{told}
use Rattle.packetline.specs.Packets.{Pkt, flush, delimiter, response_end, line, line_pkt, packets, decode, flushes_of}
use Rattle.host.specs.declared.fault.LineFault.{LineFault}
use Rattle.host.specs.Faults.{line_number}
use Rattle.host.specs.Talk.{bytes_given, Areas, Wire, Got, then, send_all, read, Sight, Talks}
use Rattle.process.specs.declared.status.Status.{Status}
use Rattle.client.specs.declared.paths.PathRow.{PathRow}
use Rattle.client.specs.declared.paths.Kept.{Kept}
use Rattle.client.specs.declared.listing.Listed.{Listed}
use Rattle.client.specs.declared.listing.ListFault.{ListFault}
use Rattle.client.specs.declared.listing.ListFault.TheVariants.{Full, Line}
use Rattle.process.specs.Gather.{Turn, goes, stops, gather}
use Rattle.process.specs.Given.{ReadsAs, TalksBy}
use Rattle.client.specs.Requests.{status_then}
use Rattle.process.specs.Statuses.{first, StatusLines}
use Rattle.client.specs.Paths.{paths_named, fitting, most, Stored}

-- The talk

abbrev pub list_request : List Pkt
list_request = line_pkt (codes "command=list_available_blobs") ∷ flush ∷ []

-- any packet but a flush is passed over
abbrev pub lines_step : Unit {0} → Pkt → Turn (Unit {0}) (Unit {0})
lines_step _ flush = stops tt
lines_step _ delimiter = goes tt []
lines_step _ response_end = goes tt []
lines_step _ (line l) = goes tt []

abbrev pub read_lines : Wire → Got (Unit {0})
read_lines v = gather read lines_step tt v

abbrev pub lines_then : Unit {0} → Wire → Got Status
lines_then _ v = then (read_lines v) status_then

abbrev pub listing : Wire → Got Status
listing v = then (send_all list_request v) lines_then

-- What it means

-- A listing answers a status exactly if what was given decodes to packets without a flush, which are lines and markers, a flush, and lines that tell
-- the status; then the request was sent, and nothing else.
pub record ListLaw (sent given : List ℕ) (r : Result Status LineFault) : Type 0 where
  pub says : (s : Status) → r ≡ Ok s → sent ≡ packets list_request
  pub only : (s : Status) → r ≡ Ok s
      → (ls : List Pkt) × ((ps : List Pkt) × ((s₀ : Status) × (flushes_of ls ≡ 0) × ReadsAs given (ls ++ flush ∷ ps) × StatusLines ps s₀ × (s ≡ first s₀)))
  pub all : (ls ps : List Pkt) (s₀ : Status) → flushes_of ls ≡ 0 → ReadsAs given (ls ++ flush ∷ ps) → StatusLines ps s₀ → r ≡ Ok (first s₀)

-- the paths named in what was given
abbrev pub named_in : List ℕ → List (List ℕ)
named_in given = paths_named (decode given).packets

-- how many paths were named, how many are stored, and whether one of them found no space
pub record Counts : Type 0 where
  pub named : ℕ
  pub stored : ℕ
  pub full : Bool

-- On every outcome, a fault too, the paths named in what was given are stored as far as there is space. An answer tells how many were named, how many
-- are stored, and whether one of them found no space.
pub record Stores (given : List ℕ) (rows : List PathRow) (text : List ℕ) (r : Result Counts LineFault) (rows' : List PathRow) (text' : List ℕ) : Type 0 where
  pub many : ℕ
  pub stored : Stored (named_in given) rows text many rows' text'
  pub counts : (c : Counts) → r ≡ Ok c
      → (c.named ≡ most (length (named_in given))) × (c.stored ≡ many) × (c.full ≡ nat_lt (length (fitting (length rows) (length text) (named_in given))) (length (named_in given)))

-- what a reader of paths tells: where nothing can be stored any more a path found no space
abbrev pub kept_counts : Kept × ℕ → Counts
kept_counts k = record { named = k.0.named; stored = k.1; full = not (is_some k.0.next) }

-- what is read of a listing up to the flush
pub record ReadsPaths (rows : List PathRow) (text : List ℕ) (w : Sight) (p : ℕ) (a : Areas) (r : Result (Kept × ℕ) LineFault) (w' : Sight) (a' : Areas) (rows' : List PathRow) (text' : List ℕ) : Type 0 where
  pub talks : Talks read_lines w p a (told (λ _. tt) (λ f. f) r) w' a'
  pub stores : Stores (bytes_given talks.events) rows text (told kept_counts (λ f. f) r) rows' text'

-- 7 is answered exactly if a path found no space, and with the status as any other answer
abbrev pub list_status : Result Listed ListFault → Result Status LineFault
list_status (Ok l) = Ok l.status
list_status (Err (Full l)) = Ok l.status
list_status (Err (Line f)) = Err f

abbrev pub counts_of : Bool → Listed → Counts
counts_of full l = record { named = l.named; stored = l.stored; full = full }

abbrev pub list_counts : Result Listed ListFault → Result Counts LineFault
list_counts (Ok l) = Ok (counts_of false l)
list_counts (Err (Full l)) = Ok (counts_of true l)
list_counts (Err (Line f)) = Err f

-- a listing: its status, and the paths
pub record Lists (rows : List PathRow) (text : List ℕ) (w : Sight) (p : ℕ) (a : Areas) (r : Result Listed ListFault) (w' : Sight) (a' : Areas) (rows' : List PathRow) (text' : List ℕ) : Type 0 where
  pub talks : TalksBy ListLaw listing w p a (list_status r) w' a'
  pub stores : Stores (bytes_given talks.0.events) rows text (list_counts r) rows' text'

-- the number of each case; 7 comes with what was listed, how many paths were named and how many are stored
abbrev pub list_number : ListFault → ℕ
list_number (Full l) = 7
list_number (Line f) = line_number f
