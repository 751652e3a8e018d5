-- A status that a server says.
-- From gitattributes, long running filter process; docs/PROTOCOL.md, Answering a request.
use Rattle.std.specs.Prelude.{◌≡◌, ℕ, Bool, true, cond, ◌&&◌, List, [], ◌∷◌, ◌++◌, length, Some, None, codes, Option, nat_le}
use Rattle.packetline.specs.declared.encode.Error.{Error as Misuse}
use Rattle.packetline.specs.declared.encode.Error.TheVariants.{AreaTooShort as Short, OutsideLimits}
use Rattle.packetline.specs.Packets.{Pkt, flush, line_pkt, packets}
use Rattle.packetline.specs.Text.{utf8, trim_end}
use Rattle.process.specs.declared.status.Status.{Status}
use Rattle.process.specs.declared.status.Status.TheVariants.{Previous as status_previous}
use Rattle.process.specs.Given.{ReadsAs}
use Rattle.process.specs.Statuses.{named, StatusLines}
use Rattle.server.specs.declared.response.Report.{Report}
use Rattle.server.specs.declared.response.Report.TheVariants.{Previous, Named}

-- a name that is said has 1 to 128 bytes
abbrev pub sayable : Report → Bool
sayable Previous = true
sayable (Named name) = nat_le 1 (length name.now) && nat_le (length name.now) 128

-- `status=` and the name, unless nothing new is said, and a flush
abbrev pub report_packets : Report → List Pkt
report_packets Previous = flush ∷ []
report_packets (Named name) = line_pkt (codes "status=" ++ name.now) ∷ flush ∷ []

-- what a status says to a client who reads it: a name is text, and loses the white space at its end
abbrev pub Means : Report → Status → Type 0
Means Previous s = s ≡ status_previous
Means (Named name) s = (utf8 name.now ≡ true) × (s ≡ named (trim_end name.now))

-- A client who reads what was sent is told the status that was said.
abbrev pub IsTold : Report → Type 0
IsTold report =
    (s : Status) → sayable report ≡ true → Means report s → ReadsAs (packets (report_packets report)) (report_packets report) × StatusLines (report_packets report) s

-- the fault of a caller who says a status: 1 where the area is too short, 2 where the name is outside its limits
abbrev pub report_fault : List ℕ → Report → Option Misuse
report_fault work report = cond (nat_le 65520 (length work)) (cond (sayable report) None (Some OutsideLimits)) (Some Short)
