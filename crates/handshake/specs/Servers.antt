-- The server's handshake: it hears which versions a client offers, chooses one, hears which capabilities the client wants, and names those that it has.
-- From gitattributes, long running filter process, its other end; docs/PROTOCOL.md, The server's handshake.
use Rattle.std.specs.Prelude.{◌≡◌, ℕ, ◌-◌, ◌≤◌, true, cond, List, [], ◌∷◌, ◌++◌, map, length, drop, Some, None, Ok, Err, codes, Decides, Option, Result, nat_eq, nat_lt, slice_index_or}
use Rattle.std.specs.List.{AllByRecursion, IsDistinct}
use Rattle.slices.specs.declared.name.Name.{Name}
use Rattle.slices.specs.Answers.{told}
use Rattle.slices.specs.Names.{name_bytes}
use Rattle.packetline.specs.Packets.{Pkt, flush, delimiter, response_end, line, line_pkt, packets, decode, over}
use Rattle.packetline.specs.Lines.{kind_of}
use Rattle.packetline.specs.Text.{trim_end, number_of, text_of}
use Rattle.host.specs.declared.fault.LineFault.{LineFault}
use Rattle.host.specs.Talk.{Wire, Got, got, then, send_all, read_text}
use Rattle.handshake.specs.declared.protocol.Objection.{Objection}
use Rattle.handshake.specs.declared.protocol.Objection.TheVariants.{Welcome, Version, Full, Mismatch}
use Rattle.handshake.specs.Judged.{version_line, greets, version_in, capability_in, if_right, read_judged}
use Rattle.handshake.specs.Handshakes.{NamedAt}
use Rattle.handshake.specs.Places.{is_among, with_place}
use Rattle.process.specs.Gather.{Turn, goes, stops, gather}
use Rattle.process.specs.Given.{ReadsAs, all_text}
use Rattle.process.specs.Masks.{place_of}

-- What ends it, by number

abbrev pub objection_number : Objection → ℕ
objection_number Welcome = 30
objection_number Version = 31
objection_number Full = 7
objection_number Mismatch = 38

-- What the client says

-- `<prefix>-client`, else 30
abbrev pub hailed : List ℕ → Option (List ℕ) → Result (Unit {0}) ℕ
hailed prefix t = cond (greets prefix (codes "-client") t) (Ok tt) (Err (objection_number Welcome))

-- one version more, where a row is left for it, else 7; what is no version is 31
abbrev pub with_version : ℕ → List ℕ → Option ℕ → Result (List ℕ) ℕ
with_version rows vs None = Err (objection_number Version)
with_version rows vs (Some n) = cond (nat_lt (length vs) rows) (Ok (vs ++ n ∷ [])) (Err (objection_number Full))

abbrev pub versions_turn : Result (List ℕ) ℕ → Turn (List ℕ) (Result (List ℕ) ℕ)
versions_turn (Ok vs) = goes vs []
versions_turn (Err n) = stops (Err n)

abbrev pub versions_step : ℕ → List ℕ → Option (List ℕ) → Turn (List ℕ) (Result (List ℕ) ℕ)
versions_step rows vs None = stops (Ok vs)
versions_step rows vs (Some t) = versions_turn (with_version rows vs (version_in (Some t)))

-- a version is chosen, else 38
abbrev pub picked : Option ℕ → Result ℕ ℕ
picked None = Err (objection_number Mismatch)
picked (Some n) = Ok n

-- a name that is not available is passed over, and so is a line of another kind
abbrev pub with_shared : List Name → List ℕ → Option (List ℕ) → List ℕ
with_shared names ks None = ks
with_shared names ks (Some s) = with_place ks (place_of names s)

abbrev pub shared_after : List Name → List ℕ → List (List ℕ) → List ℕ
shared_after names ks [] = ks
shared_after names ks (t ∷ ts) = shared_after names (with_shared names ks (capability_in (kind_of t))) ts

-- the available names that lines name, by their places
abbrev pub shared_of : List Name → List (List ℕ) → List ℕ
shared_of names ts = shared_after names [] ts

abbrev pub shared_step : List Name → List ℕ → Option (List ℕ) → Turn (List ℕ) (List ℕ)
shared_step names ks None = stops ks
shared_step names ks (Some t) = goes (with_shared names ks (capability_in (kind_of t))) []

-- What the server says

-- its welcome, the version that it chose, and a flush
abbrev pub answers : List ℕ → ℕ → List Pkt
answers prefix n = line_pkt (prefix ++ codes "-server") ∷ version_line n ∷ flush ∷ []

-- the bytes of the name at a place
abbrev pub name_at : List Name → ℕ → List ℕ
name_at names k = slice_index_or (map name_bytes names) k []

abbrev pub shared_line : List Name → ℕ → Pkt
shared_line names k = line_pkt (codes "capability=" ++ name_at names k)

-- a line for each shared name, and a flush
abbrev pub shares : List Name → List ℕ → List Pkt
shares names ks = map (shared_line names) ks ++ flush ∷ []

-- The talk

abbrev pub read_versions : ℕ → Wire → Got (Result (List ℕ) ℕ)
read_versions rows v = gather read_text (versions_step rows) [] v

abbrev pub read_shared : List Name → Wire → Got (List ℕ)
read_shared names v = gather read_text (shared_step names) [] v

-- the version, and the places of the shared names
pub record Met : Type 0 where
  pub version : ℕ
  pub shared : List ℕ

abbrev pub met : ℕ → List ℕ → Met
met n ks = record { version = n; shared = ks }

abbrev pub meets : ℕ → List ℕ → Unit {0} → Wire → Got (Result Met ℕ)
meets n ks _ v = got (Ok (met n ks)) v

abbrev pub shares_then : List Name → ℕ → List ℕ → Wire → Got (Result Met ℕ)
shares_then names n ks v = then (send_all (shares names ks) v) (meets n ks)

abbrev pub shared_then : List Name → ℕ → Unit {0} → Wire → Got (Result Met ℕ)
shared_then names n _ v = then (read_shared names v) (shares_then names n)

abbrev pub answers_then : List ℕ → List Name → ℕ → Wire → Got (Result Met ℕ)
answers_then prefix names n v = then (send_all (answers prefix n) v) (shared_then names n)

abbrev pub pick_then : List ℕ → (List ℕ → Option ℕ) → List Name → List ℕ → Wire → Got (Result Met ℕ)
pick_then prefix choice names vs v = if_right (answers_then prefix names) (picked (choice vs)) v

abbrev pub versions_then : List ℕ → ℕ → (List ℕ → Option ℕ) → List Name → Unit {0} → Wire → Got (Result Met ℕ)
versions_then prefix rows choice names _ v = then (read_versions rows v) (if_right (pick_then prefix choice names))

abbrev pub served : List ℕ → ℕ → (List ℕ → Option ℕ) → List Name → Wire → Got (Result Met ℕ)
served prefix rows choice names v = then (read_judged (hailed prefix) v) (if_right (versions_then prefix rows choice names))

-- Where the versions lie

-- the version that a line offers, if it is text
abbrev pub offer_by : Result (List ℕ) ℕ → Option ℕ
offer_by (Ok t) = version_in (Some t)
offer_by (Err n) = None

abbrev pub offer_then : ℕ → Option ℕ → List ℕ → List ℕ
offer_then rows None more = []
offer_then rows (Some n) more = cond (nat_lt 0 rows) (n ∷ more) []

-- the versions that lines offer, up to the first that offers none, as far as there are rows
abbrev pub offers_in : ℕ → List Pkt → List ℕ
offers_in rows [] = []
offers_in rows (flush ∷ ps) = []
offers_in rows (delimiter ∷ ps) = []
offers_in rows (response_end ∷ ps) = []
offers_in rows (line l ∷ ps) = offer_then rows (offer_by (text_of l)) (offers_in (rows - 1) ps)

-- the rows hold the versions offered in what was given, as far as there are rows; other rows stay
abbrev pub HoldsOffers : List ℕ → List ℕ → List ℕ → Type 0
HoldsOffers rows given rows' = rows' ≡ over (offers_in (length rows) (decode given).packets) rows

-- the same, whatever is given behind the flush that ends the versions
abbrev pub HoldsOn : {X : Type 0} → List ℕ → List ℕ → Result (Result X ℕ) LineFault → List ℕ → Type 0
HoldsOn rows given (Ok (Ok x)) rows' = (behind : List ℕ) → HoldsOffers rows (given ++ behind) rows'
HoldsOn rows given (Ok (Err n)) rows' = HoldsOffers rows given rows'
HoldsOn rows given (Err f) rows' = HoldsOffers rows given rows'

-- the same behind the first line of what was given, which is the client's welcome
abbrev pub HoldsLater : List ℕ → List ℕ → List ℕ → Type 0
HoldsLater rows given rows' = rows' ≡ over (offers_in (length rows) (drop 1 (decode given).packets)) rows

-- these versions are held in the first of the rows
abbrev pub Holding : List ℕ → List ℕ → List ℕ → ℕ → Type 0
Holding space vs rows count = (rows ≡ over vs space) × (count ≡ length vs) × (length vs ≤ length space)

-- the versions held after one more line
abbrev pub kept_by : List ℕ → Result (List ℕ) ℕ → List ℕ
kept_by vs (Ok ws) = ws
kept_by vs (Err n) = vs

-- one line more, whatever was held before
abbrev pub KeepsVersion : Option ℕ → List ℕ → ℕ → Result (Unit {0}) Objection → List ℕ → ℕ → Type 0
KeepsVersion version rows count r rows' count' =
    (space vs : List ℕ) → Holding space vs rows count
    → Holding space (kept_by vs (with_version (length space) vs version)) rows' count'
    × (told (λ _. kept_by vs (with_version (length space) vs version)) objection_number r ≡ with_version (length space) vs version)

-- What it means

-- each line is `version=` and digits that write its number
abbrev pub Offers : List (List ℕ) → List ℕ → Type 0
Offers [] [] = Unit {0}
Offers [] (v ∷ vs) = ⊥
Offers (t ∷ ts) [] = ⊥
Offers (t ∷ ts) (v ∷ vs) = ((digits : List ℕ) × (t ≡ codes "version=" ++ digits) × (number_of digits ≡ Some v)) × Offers ts vs

-- some line names the k-th of the names, and no line before it names the j-th
abbrev pub NamedBefore : List Name → List (List ℕ) → ℕ → ℕ → Type 0
NamedBefore names ts k j =
    (before : List (List ℕ)) × ((s : List ℕ) × ((after : List (List ℕ))
    × (ts ≡ before ++ (codes "capability=" ++ s) ∷ after) × (place_of names s ≡ Some k) × (NamedAt names j before → ⊥)))

-- each was named before those behind it were
abbrev pub InOrder : List Name → List (List ℕ) → List ℕ → Type 0
InOrder names ts [] = Unit {0}
InOrder names ts (k ∷ ks) = AllByRecursion (NamedBefore names ts k) ks × InOrder names ts ks

-- in words: the places of the available names that some line names, none twice, in the order first named
pub record SharedBy (names : List Name) (ts : List (List ℕ)) (ks : List ℕ) : Type 0 where
  pub named : (k : ℕ) → Decides (is_among k ks) (NamedAt names k ts)
  pub once : IsDistinct nat_eq ks
  pub order : InOrder names ts ks

-- What was given decodes to a line that is `<prefix>-client`, lines that offer versions, as many at most as there are rows, a flush, lines and a flush;
-- version v is the one that the choice answers for those, and the shared names are the available ones that the later lines name.
pub record Heard (prefix : List ℕ) (rows : ℕ) (choice : List ℕ → Option ℕ) (names : List Name) (given : List ℕ) (v : ℕ) (ks : List ℕ) : Type 0 where
  pub welcome : List ℕ
  pub offers : List (List ℕ)
  pub lines : List (List ℕ)
  pub are : ReadsAs given (line welcome ∷ (map line offers ++ flush ∷ (map line lines ++ flush ∷ [])))
  pub texts : all_text (welcome ∷ (offers ++ lines)) ≡ true
  pub greets : trim_end welcome ≡ prefix ++ codes "-client"
  pub versions : List ℕ
  pub offered : Offers (map trim_end offers) versions
  pub room : length versions ≤ rows
  pub chooses : choice versions ≡ Some v
  pub value : ks ≡ shared_of names (map trim_end lines)
  pub shared : SharedBy names (map trim_end lines) ks

-- The server answers version v and these shared names exactly if it heard so and said its part: its welcome, the version and a flush, a line for each
-- shared name and a flush, and nothing else.
pub record ServedLaw (prefix : List ℕ) (rows : ℕ) (choice : List ℕ → Option ℕ) (names : List Name) (sent given : List ℕ) (r : Result (Result Met ℕ) LineFault) : Type 0 where
  pub says : (v : ℕ) (ks : List ℕ) → r ≡ Ok (Ok (met v ks)) → sent ≡ packets (answers prefix v ++ shares names ks)
  pub only : (v : ℕ) (ks : List ℕ) → r ≡ Ok (Ok (met v ks)) → Heard prefix rows choice names given v ks
  pub all : (v : ℕ) (ks : List ℕ) → Heard prefix rows choice names given v ks → sent ≡ packets (answers prefix v ++ shares names ks) → r ≡ Ok (Ok (met v ks))
