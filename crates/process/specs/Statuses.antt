-- A status: what a process says of a command, in lines up to a flush.
-- From gitattributes, long running filter process; Previous and Unset are those of gix-filter, as docs/PROTOCOL.md, A status, tells them.
use Rattle.std.specs.Prelude.{◌≡◌, ℕ, Bool, true, false, cond, List, [], ◌∷◌, ◌++◌, map, length, Some, None, Ok, codes, Option, Result, ◌≢◌}
use Rattle.std.specs.List.{AllByRecursion}
use Rattle.std.specs.Str.{bytes_eq}
use Rattle.packetline.specs.Packets.{Pkt, flush, line}
use Rattle.packetline.specs.Lines.{Kind, status, capability, version, pathname, other, kind_of, NotAfter}
use Rattle.packetline.specs.Text.{trim_end}
use Rattle.host.specs.declared.fault.LineFault.{LineFault}
use Rattle.host.specs.Talk.{Event, noted, name_over, Wire, Got, read_text}
use Rattle.process.specs.declared.status.Word.{Word}
use Rattle.process.specs.declared.status.Word.TheVariants.{Success, Delayed, Abort, Error, Other}
use Rattle.process.specs.declared.status.Status.{Status}
use Rattle.process.specs.declared.status.Status.TheVariants.{Previous, Unset, Named}
use Rattle.process.specs.Gather.{Turn, goes, stops, gather}
use Rattle.process.specs.Given.{ReadsAs, all_text}

-- what a status name means
abbrev pub word_of : List ℕ → Word
word_of s =
    cond (bytes_eq s (codes "success")) Success
    (cond (bytes_eq s (codes "delayed")) Delayed
    (cond (bytes_eq s (codes "abort")) Abort
    (cond (bytes_eq s (codes "error")) Error Other)))

-- a status by its name: what that means, and its whole length
abbrev pub named : List ℕ → Status
named s = Named (word_of s) (length s)

-- the name in a `status=` line
abbrev pub status_in : Kind → Option (List ℕ)
status_in (status s) = Some s
status_in (capability s) = None
status_in (version s) = None
status_in (pathname s) = None
status_in (other l) = None

-- a status after one more line
abbrev pub told_by : Status → Option (List ℕ) → Status
told_by st (Some s) = named s
told_by Previous None = Unset
told_by Unset None = Unset
told_by (Named w n) None = Named w n

abbrev pub after_lines : Status → List (List ℕ) → Status
after_lines st [] = st
after_lines st (t ∷ ts) = after_lines (told_by st (status_in (kind_of t))) ts

-- the status that lines of text tell
abbrev pub status_of : List (List ℕ) → Status
status_of ts = after_lines Previous ts

-- a line that says no status
abbrev pub NoStatus : List ℕ → Type 0
NoStatus t = NotAfter t (codes "status=")

-- in words: no line at all is Previous, lines without any status are Unset, and the last `status=` line wins
abbrev pub Tells : List (List ℕ) → Status → Type 0
Tells ts Previous = ts ≡ []
Tells ts Unset = (ts ≢ []) × AllByRecursion NoStatus ts
Tells ts (Named w n) =
    (before : List (List ℕ)) × ((name : List ℕ) × ((after : List (List ℕ))
    × (ts ≡ before ++ (codes "status=" ++ name) ∷ after) × AllByRecursion NoStatus after × (Named w n ≡ named name)))

-- The talk

abbrev pub noted_by : Option (List ℕ) → List Event
noted_by (Some s) = noted s ∷ []
noted_by None = []

-- a name is laid over the front of the status area
abbrev pub laid_by : Option (List ℕ) → List ℕ → List ℕ
laid_by (Some s) area = name_over s area
laid_by None area = area

abbrev pub status_step : Status → Option (List ℕ) → Turn Status Status
status_step st None = stops st
status_step st (Some t) = goes (told_by st (status_in (kind_of t))) (noted_by (status_in (kind_of t)))

-- a status is read to the flush
abbrev pub read_status : Wire → Got Status
read_status v = gather read_text status_step Previous v

-- What it means

-- packets that tell a status: lines of text, and a flush
pub record StatusLines (ps : List Pkt) (s : Status) : Type 0 where
  pub lines : List (List ℕ)
  pub are : ps ≡ map line lines ++ flush ∷ []
  pub texts : all_text lines ≡ true
  pub value : s ≡ status_of (map trim_end lines)
  pub tells : Tells (map trim_end lines) s

-- A status is a function of the lines before its flush: it is answered exactly if what was given decodes to lines that tell it.
pub record StatusLaw (sent given : List ℕ) (r : Result Status LineFault) : Type 0 where
  pub silent : sent ≡ []
  pub only : (s : Status) → r ≡ Ok s → (ps : List Pkt) × ReadsAs given ps × StatusLines ps s
  pub all : (ps : List Pkt) (s : Status) → ReadsAs given ps → StatusLines ps s → r ≡ Ok s

-- As an exchange's first status, or a listing's, Previous counts as Unset.
abbrev pub first : Status → Status
first Previous = Unset
first Unset = Unset
first (Named w n) = Named w n

-- `success` succeeds, and so does Previous, which can only come after a result's content
abbrev pub succeeds : Status → Bool
succeeds Previous = true
succeeds Unset = false
succeeds (Named Success n) = true
succeeds (Named Delayed n) = false
succeeds (Named Abort n) = false
succeeds (Named Error n) = false
succeeds (Named Other n) = false
