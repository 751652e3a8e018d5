use Rattle.std.proofs.Common.{◌-◌, length, take}
use Rattle.host.specs.Worlds.{waits}
use Rattle.host.specs.Fills.{Brought}
use Rattle.host.proofs.Fills.{Came}
use Rattle.host.proofs.inner.fill.Given as goal

-- so many bytes came so far, and lie at the front of the area
abbrev pub invariant-loop-got : goal.invariant-loop-got
invariant-loop-got g l =
    let world = g.H.Host.world in
    let w = world l.initial.host in
    Came w l.process l.initial.area l.got (world l.host) l.area
    × Brought l.process (g.H.Host.log l.initial.host) (take l.got (waits w l.process)) (g.H.Host.log l.host)

abbrev pub decreases-loop-got : goal.decreases-loop-got
decreases-loop-got g l = length l.initial.area - l.got
