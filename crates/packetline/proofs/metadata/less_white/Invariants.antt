use Rattle.std.proofs.Common.{◌≡◌, ℕ, ◌<◌, ◌≤◌, false, length}
use Rattle.packetline.specs.Metadata.{blank, part}
use Rattle.packetline.proofs.metadata.less_white.Given as goal

abbrev pub invariant-loop-n : goal.invariant-loop-n
invariant-loop-n l = (k : ℕ) → 0 < k → k < l.n → k ≤ length l.line → blank (part l.side k l.line) ≡ false
