use Rattle.std.proofs.Common.{◌≡◌, ◌*◌, ◌≤◌, length, take}
use Rattle.packetline.specs.Packets.{over}
use Rattle.recording.specs.Shown.{escaped}
use Rattle.recording.proofs.show.lay_escaped.Given as goal

abbrev pub invariant-loop-b : goal.invariant-loop-b
invariant-loop-b l =
    (l.area ≡ over (escaped (take l.b-index l.bytes)) l.initial.area)
    × (l.n ≡ length (escaped (take l.b-index l.bytes)))
    × (l.n ≤ 4 * l.b-index)
