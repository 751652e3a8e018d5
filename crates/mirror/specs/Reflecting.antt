-- The server that each process of a mirror is: it gives content back as it came.
-- From docs/HOST.md, Hosts that are built; what it says and hears is a server's part of gitattributes, long running filter process.
use Rattle.std.specs.Prelude.{ℕ, zero, suc, Bool, cond, ◌||◌, List, [], ◌∷◌, ◌++◌, map, length, Some, None, Ok, codes, Option, Result, nat_le}
use Rattle.std.specs.Str.{bytes_eq}
use Rattle.slices.specs.declared.name.Name.{Name}
use Rattle.choices.specs.Choices.{first_offered}
use Rattle.packetline.specs.Packets.{Pkt, flush, line, line_pkt}
use Rattle.host.specs.Parts.{parts}
use Rattle.host.specs.Talk.{Wire, Got, got, then, send_all, read_content}
use Rattle.process.specs.Gather.{Turn, goes, stops, gather}
use Rattle.requests.specs.Stored.{Request}
use Rattle.requests.specs.Requests.{requested}
use Rattle.handshake.specs.Judged.{if_right}
use Rattle.handshake.specs.Servers.{Met, served}

-- What it says

-- `status=` and a name, and a flush
abbrev pub status_packets : List ℕ → List Pkt
status_packets name = line_pkt (codes "status=" ++ name) ∷ flush ∷ []

-- bytes in packets, none for no bytes, and a flush
abbrev pub writing_packets : List ℕ → List Pkt
writing_packets bytes = map line (parts bytes) ++ flush ∷ []

-- a listing of nothing, which succeeds
abbrev pub no_blobs : List Pkt
no_blobs = writing_packets [] ++ status_packets (codes "success")

-- content given back: success, the content, and no other status behind it; or an error, where none is given back
abbrev pub reflection : Option (List ℕ) → List Pkt
reflection None = status_packets (codes "error")
reflection (Some c) = status_packets (codes "success") ++ (writing_packets c ++ flush ∷ [])

-- What it hears

abbrev pub lists : Request → Bool
lists q = bytes_eq q.command (codes "list_available_blobs")

-- the commands whose content is given back
abbrev pub filters : Request → Bool
filters q = bytes_eq q.command (codes "clean") || bytes_eq q.command (codes "smudge")

-- what is to be given back before any content came: of another command nothing will be
abbrev pub opening : Request → Option (List ℕ)
opening q = cond (filters q) (Some []) None

-- with one payload more; beyond 4,096 bytes nothing is given back
abbrev pub with_payload : Option (List ℕ) → List ℕ → Option (List ℕ)
with_payload None l = None
with_payload (Some c) l = cond (nat_le (length (c ++ l)) 4096) (Some (c ++ l)) None

abbrev pub content_step : Option (List ℕ) → Option (List ℕ) → Turn (Option (List ℕ)) (Option (List ℕ))
content_step c None = stops c
content_step c (Some l) = goes (with_payload c l) []

-- The talk

-- content is read to its flush, and given back
abbrev pub reflected : Option (List ℕ) → Wire → Got (Unit {0})
reflected c v = then (gather read_content content_step c v) (λ d u. send_all (reflection d) u)

abbrev pub answered : Request → Wire → Got (Unit {0})
answered q v = cond (lists q) (send_all no_blobs v) (reflected (opening q) v)

abbrev pub answered_then : (Wire → Got (Result (Unit {0}) ℕ)) → Option Request → Wire → Got (Result (Unit {0}) ℕ)
answered_then more None v = got (Ok tt) v
answered_then more (Some q) v = then (answered q v) (λ _ u. more u)

-- requests are answered until none is asked, or until one is refused, but not more than k
abbrev pub answers_on : ℕ → Wire → Got (Result (Unit {0}) ℕ)
answers_on zero v = got (Ok tt) v
answers_on (suc k) v = then (requested 16 8192 v) (if_right (answered_then (answers_on k)))

abbrev pub met_then : ℕ → Met → Wire → Got (Result (Unit {0}) ℕ)
met_then k m v = answers_on k v

-- a handshake as a server that speaks version 2, where there are 16 rows for the versions that are offered; and then requests
abbrev pub mirrored : List ℕ → List Name → ℕ → Wire → Got (Result (Unit {0}) ℕ)
mirrored prefix names k v = then (served prefix 16 (first_offered (2 ∷ [])) names v) (if_right (met_then k))
