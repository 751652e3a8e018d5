-- The client's handshake: client and process agree on a version, and the process names what it can do.
-- From gitattributes, long running filter process; what is refused, and by which number, is told in docs/PROTOCOL.md, The client's handshake.
use Rattle.std.specs.Prelude.{◌≡◌, ℕ, true, cond, List, [], ◌∷◌, ◌++◌, map, is_some, Some, None, Ok, Err, codes, Decides, Option, Result, nat_eq}
use Rattle.slices.specs.declared.name.Name.{Name}
use Rattle.slices.specs.First.{first_equal}
use Rattle.packetline.specs.Packets.{Pkt, flush, line, line_pkt, packets}
use Rattle.packetline.specs.Lines.{kind_of}
use Rattle.packetline.specs.Text.{trim_end, number_of}
use Rattle.host.specs.declared.fault.LineFault.{LineFault}
use Rattle.host.specs.Talk.{Wire, Got, got, then, send_all, read_text}
use Rattle.handshake.specs.declared.protocol.Protocol.{Protocol}
use Rattle.handshake.specs.declared.protocol.Protocol.TheVariants.{Welcome, Version, NotOffered, Flush, Capability}
use Rattle.handshake.specs.declared.agreement.Agreement.{Agreement}
use Rattle.handshake.specs.Judged.{version_line, capability_line, greets, version_in, capability_in, if_right, read_judged}
use Rattle.process.specs.Gather.{Turn, goes, stops, gather}
use Rattle.process.specs.Given.{ReadsAs, all_text}
use Rattle.process.specs.Masks.{holds, with_bit, place_of}

-- What the client says

-- the welcome, a line for each offered version in order, and a flush
abbrev pub hello : List ℕ → List ℕ → List Pkt
hello prefix versions = line_pkt (prefix ++ codes "-client") ∷ (map version_line versions ++ flush ∷ [])

-- a line for each desired name, and a flush
abbrev pub desired : List Name → List Pkt
desired names = map capability_line names ++ flush ∷ []

-- What the process answers; what it must not say has a number

abbrev pub protocol_number : Protocol → ℕ
protocol_number Welcome = 30
protocol_number Version = 31
protocol_number NotOffered = 32
protocol_number Flush = 33
protocol_number Capability = 34

-- `<prefix>-server`, else 30
abbrev pub welcomed : List ℕ → Option (List ℕ) → Result (Unit {0}) ℕ
welcomed prefix t = cond (greets prefix (codes "-server") t) (Ok tt) (Err (protocol_number Welcome))

-- a number, else 31, that was offered, else 32
abbrev pub offered : List ℕ → Option ℕ → Result ℕ ℕ
offered versions None = Err (protocol_number Version)
offered versions (Some n) = cond (is_some (first_equal nat_eq n versions)) (Ok n) (Err (protocol_number NotOffered))

abbrev pub chosen : List ℕ → Option (List ℕ) → Result ℕ ℕ
chosen versions t = offered versions (version_in t)

-- a flush, else 33
abbrev pub ended : Option (List ℕ) → Result (Unit {0}) ℕ
ended None = Ok tt
ended (Some t) = Err (protocol_number Flush)

-- a desired name sets its bit; one that is not desired is 34
abbrev pub at_place : ℕ → Option ℕ → Result ℕ ℕ
at_place m None = Err (protocol_number Capability)
at_place m (Some k) = Ok (with_bit m k)

-- other lines change nothing
abbrev pub with_name : List Name → ℕ → Option (List ℕ) → Result ℕ ℕ
with_name names m None = Ok m
with_name names m (Some s) = at_place m (place_of names s)

-- the mask after a line
abbrev pub with_line : List Name → ℕ → List ℕ → Result ℕ ℕ
with_line names m t = with_name names m (capability_in (kind_of t))

-- the mask after lines, up to the first that is refused
abbrev pub mask_then : List Name → Result ℕ ℕ → List (List ℕ) → Result ℕ ℕ
mask_then names (Err n) ts = Err n
mask_then names (Ok m) [] = Ok m
mask_then names (Ok m) (t ∷ ts) = mask_then names (with_line names m t) ts

abbrev pub mask_after : List Name → ℕ → List (List ℕ) → Result ℕ ℕ
mask_after names m ts = mask_then names (Ok m) ts

-- The talk

abbrev pub names_turn : Result ℕ ℕ → Turn ℕ (Result ℕ ℕ)
names_turn (Ok m) = goes m []
names_turn (Err n) = stops (Err n)

abbrev pub names_step : List Name → ℕ → Option (List ℕ) → Turn ℕ (Result ℕ ℕ)
names_step names m None = stops (Ok m)
names_step names m (Some t) = names_turn (with_line names m t)

-- the mask of the names that the process sends, up to the flush
abbrev pub read_names : List Name → Wire → Got (Result ℕ ℕ)
read_names names v = gather read_text (names_step names) 0 v

-- the version and the mask
pub record Shaken : Type 0 where
  pub version : ℕ
  pub mask : ℕ

abbrev pub shaken : ℕ → ℕ → Shaken
shaken n m = record { version = n; mask = m }

abbrev pub names_of : List Name → ℕ → Unit {0} → Wire → Got (Result Shaken ℕ)
names_of names n _ v = then (read_names names v) (if_right (λ m u. got (Ok (shaken n m)) u))

abbrev pub asks : List Name → ℕ → Unit {0} → Wire → Got (Result Shaken ℕ)
asks names n _ v = then (send_all (desired names) v) (names_of names n)

abbrev pub flush_then : List Name → ℕ → Wire → Got (Result Shaken ℕ)
flush_then names n v = then (read_judged ended v) (if_right (asks names n))

abbrev pub version_then : List ℕ → List Name → Unit {0} → Wire → Got (Result Shaken ℕ)
version_then versions names _ v = then (read_judged (chosen versions) v) (if_right (flush_then names))

abbrev pub welcome_then : List ℕ → List ℕ → List Name → Unit {0} → Wire → Got (Result Shaken ℕ)
welcome_then prefix versions names _ v = then (read_judged (welcomed prefix) v) (if_right (version_then versions names))

abbrev pub handshake : List ℕ → List ℕ → List Name → Wire → Got (Result Shaken ℕ)
handshake prefix versions names v = then (send_all (hello prefix versions) v) (welcome_then prefix versions names)

-- What it means

-- some line names the k-th of the names, the first of equal ones
abbrev pub NamedAt : List Name → ℕ → List (List ℕ) → Type 0
NamedAt names k ts =
    (before : List (List ℕ)) × ((s : List ℕ) × ((after : List (List ℕ)) × (ts ≡ before ++ (codes "capability=" ++ s) ∷ after) × (place_of names s ≡ Some k)))

-- no line names a capability that is not desired
abbrev pub AllDesired : List Name → List (List ℕ) → Type 0
AllDesired names ts =
    (before : List (List ℕ)) (s : List ℕ) (after : List (List ℕ)) → ts ≡ before ++ (codes "capability=" ++ s) ∷ after → (k : ℕ) × (place_of names s ≡ Some k)

-- What was given decodes to a line that is `<prefix>-server`, a line `version=` and v with v offered, a flush, lines and a flush; no line names a
-- capability that is not desired, and a bit is set exactly if some line names its name.
pub record Agreed (prefix versions : List ℕ) (names : List Name) (given : List ℕ) (v m : ℕ) : Type 0 where
  pub welcome : List ℕ
  pub choice : List ℕ
  pub lines : List (List ℕ)
  pub are : ReadsAs given (line welcome ∷ line choice ∷ flush ∷ (map line lines ++ flush ∷ []))
  pub texts : all_text (welcome ∷ choice ∷ lines) ≡ true
  pub greets : trim_end welcome ≡ prefix ++ codes "-server"
  pub digits : List ℕ
  pub chooses : trim_end choice ≡ codes "version=" ++ digits
  pub number : number_of digits ≡ Some v
  pub offers : is_some (first_equal nat_eq v versions) ≡ true
  pub known : AllDesired names (map trim_end lines)
  pub bits : (k : ℕ) → Decides (holds m k) (NamedAt names k (map trim_end lines))

-- The handshake answers version v and mask m exactly if client and process agreed on them; then all that the client says was sent, and nothing else.
pub record HandshakeLaw (prefix versions : List ℕ) (names : List Name) (sent given : List ℕ) (r : Result (Result Shaken ℕ) LineFault) : Type 0 where
  pub says : (v m : ℕ) → r ≡ Ok (Ok (shaken v m)) → sent ≡ packets (hello prefix versions ++ desired names)
  pub only : (v m : ℕ) → r ≡ Ok (Ok (shaken v m)) → Agreed prefix versions names given v m
  pub all : (v m : ℕ) → Agreed prefix versions names given v m → r ≡ Ok (Ok (shaken v m))

abbrev pub shaken_by : Agreement → Shaken
shaken_by c = shaken c.version c.capabilities.mask
