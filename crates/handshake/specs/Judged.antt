-- What the two ends of a handshake share: the lines that they send, the lines that they look for, and lines that are judged as they are read.
-- The lines are those of gitattributes, long running filter process.
use Rattle.std.specs.Prelude.{ℕ, Bool, false, List, ◌++◌, Some, None, Ok, Err, codes, decimal, Option, Result}
use Rattle.std.specs.Str.{bytes_eq}
use Rattle.slices.specs.declared.name.Name.{Name}
use Rattle.slices.specs.Names.{name_bytes}
use Rattle.packetline.specs.Packets.{Pkt, line_pkt}
use Rattle.packetline.specs.Lines.{Kind, status, capability, version, pathname, other, kind_of, after_prefix}
use Rattle.packetline.specs.Text.{number_of}
use Rattle.host.specs.declared.fault.LineFault.{LineFault}
use Rattle.host.specs.Faults.{line_number}
use Rattle.host.specs.Talk.{Wire, Got, got, then, read_text}
use Rattle.handshake.specs.declared.protocol.Refusal.{Refusal}
use Rattle.handshake.specs.declared.protocol.Refusal.TheVariants.{Line, Protocol as Wrong}

-- Lines

abbrev pub version_line : ℕ → Pkt
version_line n = line_pkt (codes "version=" ++ decimal n)

abbrev pub capability_line : Name → Pkt
capability_line n = line_pkt (codes "capability=" ++ name_bytes n)

-- a line that is the prefix and a role: `-client`, `-server`
abbrev pub is_role : List ℕ → Option (List ℕ) → Bool
is_role role None = false
is_role role (Some rest) = bytes_eq rest role

abbrev pub greets : List ℕ → List ℕ → Option (List ℕ) → Bool
greets prefix role None = false
greets prefix role (Some t) = is_role role (after_prefix prefix t)

-- the number in a `version=` line
abbrev pub version_of : Kind → Option ℕ
version_of (status s) = None
version_of (capability s) = None
version_of (version s) = number_of s
version_of (pathname s) = None
version_of (other l) = None

abbrev pub version_in : Option (List ℕ) → Option ℕ
version_in None = None
version_in (Some t) = version_of (kind_of t)

-- the name in a `capability=` line
abbrev pub capability_in : Kind → Option (List ℕ)
capability_in (status s) = None
capability_in (capability s) = Some s
capability_in (version s) = None
capability_in (pathname s) = None
capability_in (other l) = None

-- Judging

-- one talk after another, unless the first was told what it must not be
abbrev pub if_right : {A B : Type 0} → (A → Wire → Got (Result B ℕ)) → Result A ℕ → Wire → Got (Result B ℕ)
if_right f (Ok a) v = f a v
if_right f (Err n) v = got (Err n) v

-- a line of text, judged
abbrev pub read_judged : {A : Type 0} → (Option (List ℕ) → Result A ℕ) → Wire → Got (Result A ℕ)
read_judged judge v = then (read_text v) (λ t u. got (judge t) u)

-- an answer of the code: a value by its meaning, what the other side must not say by its number, or the fault of the line
abbrev pub heard : {P X Y : Type 0} → (P → ℕ) → (X → Y) → Result X (Refusal P) → Result (Result Y ℕ) LineFault
heard number f (Ok x) = Ok (Ok (f x))
heard number f (Err (Line e)) = Err e
heard number f (Err (Wrong p)) = Ok (Err (number p))

-- the number of each case
abbrev pub refusal_number : {P : Type 0} → (P → ℕ) → Refusal P → ℕ
refusal_number number (Line e) = line_number e
refusal_number number (Wrong p) = number p
