-- The numbers of what can go wrong.
-- From docs/ANSWERS.md.
use Rattle.std.specs.Prelude.{ℕ}
use Rattle.host.specs.declared.fault.NotStarted.{NotStarted}
use Rattle.host.specs.declared.fault.Fault.{Fault}
use Rattle.host.specs.declared.fault.Fault.TheVariants.{Closed, Broken, Other}
use Rattle.host.specs.declared.fault.Snag.{Snag}
use Rattle.host.specs.declared.fault.Snag.TheVariants.{Broken as snag_broken, Other as snag_other}
use Rattle.host.specs.declared.fault.LineFault.{LineFault}
use Rattle.host.specs.declared.fault.LineFault.TheVariants.{Host, Packet, Marker, Text}
use Rattle.packetline.specs.Reads.{decode_number}
use Rattle.packetline.specs.Text.{text_number}

abbrev pub start_number : NotStarted → ℕ
start_number _ = 10

abbrev pub fault_number : Fault → ℕ
fault_number Closed = 11
fault_number Broken = 12
fault_number Other = 13

-- what a send beyond the allowance answers
abbrev pub snag_fault : Snag → Fault
snag_fault snag_broken = Broken
snag_fault snag_other = Other

-- the line faults: 11 to 13 and 20 to 22
abbrev pub line_number : LineFault → ℕ
line_number (Host f) = fault_number f
line_number (Packet e) = decode_number e
line_number Marker = 21
line_number (Text e) = text_number e
