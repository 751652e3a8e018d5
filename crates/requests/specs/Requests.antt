-- A request: a command in a line of text, metadata in lines of bytes, and a flush.
-- From gitattributes, long running filter process; what is refused, and by which number, is told in docs/PROTOCOL.md, A request.
use Rattle.std.specs.Prelude.{◌≡◌, ◌↔◌, ℕ, ◌+◌, ◌<◌, ◌≤◌, true, cond, ◌⊎◌, List, [], ◌∷◌, ◌++◌, map, length, take, Some, None, Ok, Err, codes, Option, Result, nat_le}
use Rattle.std.specs.Option.{option_map}
use Rattle.packetline.specs.Packets.{Pkt, flush, delimiter, response_end, line, decode, over}
use Rattle.packetline.specs.Lines.{after_prefix, NotAfter}
use Rattle.packetline.specs.Metadata.{trim_both, pair_of, IsPair}
use Rattle.packetline.specs.Text.{utf8, trim_end, text_of}
use Rattle.host.specs.declared.fault.Fault.TheVariants.{Closed, Broken, Other}
use Rattle.host.specs.declared.fault.LineFault.{LineFault}
use Rattle.host.specs.declared.fault.LineFault.TheVariants.{Host, Packet, Marker, Text}
use Rattle.host.specs.Faults.{line_number}
use Rattle.host.specs.Talk.{bytes_given, Areas, Wire, Got, got, lost, then, ends, read, read_text, Sight, Talks}
use Rattle.process.specs.Gather.{Turn, goes, stops, gather}
use Rattle.process.specs.Given.{ReadsAs, TalksBy}
use Rattle.requests.specs.declared.asked.Asked.{Asked}
use Rattle.requests.specs.declared.asked.MetaRow.{MetaRow}
use Rattle.requests.specs.declared.fault.RequestFault.{RequestFault}
use Rattle.requests.specs.declared.fault.RequestFault.TheVariants.{Line, Command, Metadata, Full}
use Rattle.requests.specs.Stored.{Pair, Request, request, and_pair, used, has_space, counts_of, request_at, Holds, Keeping}

-- the number of each case
abbrev pub request_number : RequestFault → ℕ
request_number (Line e) = line_number e
request_number Command = 39
request_number Metadata = 40
request_number Full = 7

-- The first line

-- a command that finds room, else 7
abbrev pub with_command : ℕ → Option (List ℕ) → Result (Option (List ℕ)) ℕ
with_command room None = Err (request_number Command)
with_command room (Some c) = cond (nat_le (length c) room) (Ok (Some c)) (Err (request_number Full))

-- `command=` and a command, else 39, as is a flush
abbrev pub command_in : ℕ → Option (List ℕ) → Result (Option (List ℕ)) ℕ
command_in room None = Err (request_number Command)
command_in room (Some t) = with_command room (after_prefix (codes "command=") t)

-- where the client has closed, or a marker stands, nothing is asked; any other fault is one
abbrev pub unasked : {A : Type 0} → LineFault → Result (Result (Option A) ℕ) LineFault
unasked (Host Closed) = Ok (Ok None)
unasked (Host Broken) = Err (Host Broken)
unasked (Host Other) = Err (Host Other)
unasked (Packet e) = Err (Packet e)
unasked Marker = Ok (Ok None)
unasked (Text e) = Err (Text e)

-- an answer that is judged, or a fault that may say that nothing is asked
abbrev pub begun : {X A : Type 0} → (X → Result (Option A) ℕ) → Got X → Got (Result (Option A) ℕ)
begun judge (got x v) = got (judge x) v
begun judge (lost f v) = ends (unasked f) v

abbrev pub read_command : ℕ → Wire → Got (Result (Option (List ℕ)) ℕ)
read_command room v = begun (command_in room) (read_text v)

-- The lines of metadata

-- a pair that finds space, else 7; no pair is 40
abbrev pub with_meta : ℕ → ℕ → Request → Option Pair → Turn Request (Result (Option Request) ℕ)
with_meta rows room q None = stops (Err (request_number Metadata))
with_meta rows room q (Some p) = cond (has_space rows room q p) (goes (and_pair q p) []) (stops (Err (request_number Full)))

-- key and value around the first `=` of a line without the white space at its ends; a marker is 40
abbrev pub meta_step : ℕ → ℕ → Request → Pkt → Turn Request (Result (Option Request) ℕ)
meta_step rows room q flush = stops (Ok (Some q))
meta_step rows room q delimiter = stops (Err (request_number Metadata))
meta_step rows room q response_end = stops (Err (request_number Metadata))
meta_step rows room q (line l) = with_meta rows room q (pair_of (trim_both l))

-- the pairs up to the flush, behind what was asked before
abbrev pub read_meta : ℕ → ℕ → Request → Wire → Got (Result (Option Request) ℕ)
read_meta rows room q v = gather read (meta_step rows room) q v

abbrev pub meta_then : ℕ → ℕ → Result (Option (List ℕ)) ℕ → Wire → Got (Result (Option Request) ℕ)
meta_then rows room (Ok (Some c)) v = read_meta rows room (request c []) v
meta_then rows room (Ok None) v = got (Ok None) v
meta_then rows room (Err n) v = got (Err n) v

-- the next request, where there is space for so many rows and bytes
abbrev pub requested : ℕ → ℕ → Wire → Got (Result (Option Request) ℕ)
requested rows room v = then (read_command room v) (meta_then rows room)

-- What it means

-- each line, without the white space at its ends, is its pair: a key without `=`, an `=`, and a value
abbrev pub AreMeta : List (List ℕ) → List Pair → Type 0
AreMeta [] [] = Unit {0}
AreMeta [] (p ∷ ps) = ⊥
AreMeta (l ∷ ls) [] = ⊥
AreMeta (l ∷ ls) (p ∷ ps) = IsPair (trim_both l) (Some p) × AreMeta ls ps

-- the line of a command: text, and without the white space at its end `command=` and the command
pub record CommandIs (l c : List ℕ) : Type 0 where
  pub text : utf8 l ≡ true
  pub spells : trim_end l ≡ codes "command=" ++ c

-- What was given decodes to a line, lines, and a packet x behind them, with nothing left; the first line is the command's, each other is its pair, in
-- order; and all of it has space.
pub record Begins (rows room : ℕ) (given : List ℕ) (q : Request) (x : Pkt) : Type 0 where
  pub first : List ℕ
  pub lines : List (List ℕ)
  pub are : ReadsAs given (line first ∷ (map line lines ++ x ∷ []))
  pub commands : CommandIs first q.command
  pub metadata : AreMeta lines q.pairs
  pub rows_for : length q.pairs ≤ rows
  pub room_for : used q ≤ room

-- the lines of a request, and a flush
abbrev pub Asks : ℕ → ℕ → List ℕ → Request → Type 0
Asks rows room given q = Begins rows room given q flush

-- one pair more finds no row or no room
abbrev pub NoSpace : ℕ → ℕ → Request → Pair → Type 0
NoSpace rows room q p = (rows ≤ length q.pairs) ⊎ (room < used q + length p.0 + length p.1)

-- what was given is one marker
abbrev pub GivesMarker : List ℕ → Type 0
GivesMarker given = ReadsAs given (delimiter ∷ []) ⊎ ReadsAs given (response_end ∷ [])

-- a flush, or one line of text that does not begin with `command=`
abbrev pub GivesNoCommand : List ℕ → Type 0
GivesNoCommand given = ReadsAs given (flush ∷ []) ⊎ ((l : List ℕ) × ReadsAs given (line l ∷ []) × (utf8 l ≡ true) × NotAfter (trim_end l) (codes "command="))

-- a marker behind the lines of a request, or a line without `=`
abbrev pub GivesNoPair : ℕ → ℕ → List ℕ → Type 0
GivesNoPair rows room given =
    (q : Request) × (Begins rows room given q delimiter ⊎ (Begins rows room given q response_end ⊎ ((l : List ℕ) × Begins rows room given q (line l) × IsPair (trim_both l) None)))

-- a command that finds no room, or behind the lines of a request a pair that finds no space
abbrev pub GivesTooMuch : ℕ → ℕ → List ℕ → Type 0
GivesTooMuch rows room given =
    ((l : List ℕ) × (c : List ℕ) × ReadsAs given (line l ∷ []) × CommandIs l c × (room < length c))
    ⊎ ((q : Request) × (l : List ℕ) × (p : Pair) × Begins rows room given q (line l) × IsPair (trim_both l) (Some p) × NoSpace rows room q p)

-- A request is answered exactly if what was given asks it, and each refusal exactly if what was given is what it is for; nothing was sent. That nothing
-- is asked is answered where one marker was given, and else only where no whole packet was.
pub record RequestLaw (rows room : ℕ) (sent given : List ℕ) (r : Result (Result (Option Request) ℕ) LineFault) : Type 0 where
  pub silent : sent ≡ []
  pub only : (q : Request) → r ≡ Ok (Ok (Some q)) → Asks rows room given q
  pub all : (q : Request) → Asks rows room given q → r ≡ Ok (Ok (Some q))
  pub none : r ≡ Ok (Ok None) → GivesMarker given ⊎ ((decode given).packets ≡ [])
  pub all_markers : GivesMarker given → r ≡ Ok (Ok None)
  pub no_command : (r ≡ Ok (Err (request_number Command))) ↔ GivesNoCommand given
  pub no_pair : (r ≡ Ok (Err (request_number Metadata))) ↔ GivesNoPair rows room given
  pub too_much : (r ≡ Ok (Err (request_number Full))) ↔ GivesTooMuch rows room given

-- What is stored

-- what is kept where nothing is refused
abbrev pub kept_of : Result (Option (List ℕ)) ℕ → Option (List ℕ)
kept_of (Ok o) = o
kept_of (Err n) = None

-- the command in a text, where it is kept
abbrev pub text_kept : ℕ → Result (List ℕ) ℕ → Option (List ℕ)
text_kept room (Ok t) = kept_of (command_in room (Some t))
text_kept room (Err n) = None

-- the command in a first packet, where there is one and it finds room
abbrev pub command_kept : ℕ → Pkt → Option (List ℕ)
command_kept room flush = None
command_kept room delimiter = None
command_kept room response_end = None
command_kept room (line l) = text_kept room (text_of l)

-- what was kept before, or with more where the reading goes on
abbrev pub turn_kept : Request → Turn Request (Result (Option Request) ℕ) → (Request → Request) → Request
turn_kept q (goes q' es) more = more q'
turn_kept q (stops a) more = q

-- what is stored after packets of metadata: their pairs, up to the flush or to the first that is refused
abbrev pub meta_kept : ℕ → ℕ → Request → List Pkt → Request
meta_kept rows room q [] = q
meta_kept rows room q (p ∷ ps) = turn_kept q (meta_step rows room q p) (λ q'. meta_kept rows room q' ps)

-- a command and the pairs behind it, or nothing
abbrev pub behind_kept : ℕ → ℕ → List Pkt → Option (List ℕ) → Request
behind_kept rows room ps None = request [] []
behind_kept rows room ps (Some c) = meta_kept rows room (request c []) ps

-- what is stored of a request in packets: the command, unless it is refused, and then its pairs
abbrev pub stored_in : ℕ → ℕ → List Pkt → Request
stored_in rows room [] = request [] []
stored_in rows room (p ∷ ps) = behind_kept rows room ps (command_kept room p)

-- in words: the pairs are those of the first packets, in order, up to one that is no line, is no pair, or finds no space
pub record TakesPairs (rows room : ℕ) (ps : List Pkt) (q : Request) : Type 0 where
  pub lines : List (List ℕ)
  pub left : List Pkt
  pub are : ps ≡ map line lines ++ left
  pub metadata : AreMeta lines q.pairs
  pub stops : (l : List ℕ) (ms : List Pkt) (p : Pair) → left ≡ line l ∷ ms → IsPair (trim_both l) (Some p) → NoSpace rows room q p

-- in words: the command of the first line and pairs behind it, or nothing where there is no command or it finds no room
abbrev pub IsStored : ℕ → ℕ → List Pkt → Request → Type 0
IsStored rows room [] q = q ≡ request [] []
IsStored rows room (flush ∷ ps) q = q ≡ request [] []
IsStored rows room (delimiter ∷ ps) q = q ≡ request [] []
IsStored rows room (response_end ∷ ps) q = q ≡ request [] []
IsStored rows room (line l ∷ ps) q = (CommandIs l q.command × TakesPairs rows room ps q) ⊎ (((c : List ℕ) → CommandIs l c → room < length c) × (q ≡ request [] []))

-- what is stored of what was given
abbrev pub stored_of : List ℕ → List MetaRow → List ℕ → Request
stored_of given rows text = stored_in (length rows) (length text) (decode given).packets

-- On every outcome, a fault too, rows and text area hold what is stored of what was given, and show it to who knows its two numbers; an answer tells
-- these.
pub record Stores (given : List ℕ) (rows : List MetaRow) (text : List ℕ) (r : Result (Option Asked) RequestFault) (rows' : List MetaRow) (text' : List ℕ) : Type 0 where
  pub holds : Holds (stored_of given rows text) rows text rows' text'
  pub law : IsStored (length rows) (length text) (decode given).packets (stored_of given rows text)
  pub shows : request_at rows' text' (counts_of (stored_of given rows text)) ≡ stored_of given rows text
  pub counts : (a : Asked) → r ≡ Ok (Some a) → a ≡ counts_of (stored_of given rows text)

-- What is promised of the code

-- a refusal of the code: what the client must not say, or what has no space, by its number, or the fault of the line
abbrev pub refused : {A : Type 0} → RequestFault → Result (Result A ℕ) LineFault
refused (Line e) = Err e
refused Command = Ok (Err (request_number Command))
refused Metadata = Ok (Err (request_number Metadata))
refused Full = Ok (Err (request_number Full))

-- an answer of the code, a value by its meaning
abbrev pub heard : {X A : Type 0} → (X → A) → Result X RequestFault → Result (Result A ℕ) LineFault
heard f (Ok x) = Ok (Ok (f x))
heard f (Err e) = refused e

-- the command in a line is laid over the front of the text area, or it is refused and nothing is
abbrev pub StoresCommand : List ℕ → List ℕ → Result ℕ RequestFault → List ℕ → Type 0
StoresCommand text l (Ok n) text' =
    (c : List ℕ) × (command_in (length text) (Some l) ≡ Ok (Some c)) × (n ≡ length c) × (n ≤ length text) × (text' ≡ over c text)
StoresCommand text l (Err e) text' = (refused e ≡ Ok (command_in (length text) (Some l))) × (text' ≡ text)

-- a command of n bytes lies over the front of the text area, or the area is as it was
abbrev pub CommandLies : List ℕ → Result (Option ℕ) RequestFault → List ℕ → Type 0
CommandLies text (Ok (Some n)) text' = (c : List ℕ) × (n ≡ length c) × (n ≤ length text) × (text' ≡ over c text)
CommandLies text (Ok None) text' = text' ≡ text
CommandLies text (Err e) text' = text' ≡ text

-- what is read of the first line
pub record ReadsCommand (text : List ℕ) (w : Sight) (p : ℕ) (a : Areas) (r : Result (Option ℕ) RequestFault) (w' : Sight) (a' : Areas) (text' : List ℕ) : Type 0 where
  pub talks : Talks (read_command (length text)) w p a (heard (option_map (λ n. take n text')) r) w' a'
  pub lies : CommandLies text r text'

-- what a line of metadata says is stored, or it is refused and nothing of it is
abbrev pub LineKept : Request → List MetaRow → List ℕ → List ℕ → ℕ → Result ℕ RequestFault → List MetaRow → ℕ → List ℕ → Type 0
LineKept q space area l at (Ok behind) rows count text =
    (p : Pair) × (meta_step (length space) (length area) q (line l) ≡ goes (and_pair q p) []) × Keeping (and_pair q p) space area rows count text behind
LineKept q space area l at (Err e) rows count text =
    (n : ℕ) × (meta_step (length space) (length area) q (line l) ≡ stops (Err n)) × (refused {A = Option Request} e ≡ Ok (Err n)) × Keeping q space area rows count text at

-- so it is with one line more, whatever was stored before
abbrev pub StoresLine : ℕ → List MetaRow → ℕ → List ℕ → List ℕ → Result ℕ RequestFault → List MetaRow → ℕ → List ℕ → Type 0
StoresLine at rows count text l r rows' count' text' =
    (q : Request) (space : List MetaRow) (area : List ℕ) → Keeping q space area rows count text at → LineKept q space area l at r rows' count' text'

-- what a text area of which the first n bytes are the command asks before any metadata
abbrev pub command_at : ℕ → List ℕ → Request
command_at n text = request (take n text) []

-- what is read of the lines behind a command of n bytes
pub record ReadsMeta (n : ℕ) (rows : List MetaRow) (text : List ℕ) (w : Sight) (p : ℕ) (a : Areas) (r : Result ℕ RequestFault) (w' : Sight) (a' : Areas) (rows' : List MetaRow) (text' : List ℕ) : Type 0 where
  pub talks : Talks (read_meta (length rows) (length text) (command_at n text)) w p a (heard (λ k. Some (request_at rows' text' (record { command = n; pairs = k }))) r) w' a'
  pub holds : Holds (meta_kept (length rows) (length text) (command_at n text) (decode (bytes_given talks.events)).packets) rows text rows' text'
  pub counts : (k : ℕ) → r ≡ Ok k → k ≡ length (meta_kept (length rows) (length text) (command_at n text) (decode (bytes_given talks.events)).packets).pairs

-- A call answers so, by the request that rows and text area show then; a law holds of what passed; and what was given is stored as far as there is space.
pub record ReadsRequest (rows : List MetaRow) (text : List ℕ) (w : Sight) (p : ℕ) (a : Areas) (r : Result (Option Asked) RequestFault) (w' : Sight) (a' : Areas) (rows' : List MetaRow) (text' : List ℕ) : Type 0 where
  pub talks : TalksBy (RequestLaw (length rows) (length text)) (requested (length rows) (length text)) w p a (heard (option_map (request_at rows' text')) r) w' a'
  pub stores : Stores (bytes_given talks.0.events) rows text r rows' text'
