use Rattle.std.proofs.Common.{vec_len, ◌-◌}
use Rattle.exam.proofs.listing.Flow.advance.Given as goal

abbrev pub decreases-loop-whole : goal.decreases-loop-whole
decreases-loop-whole g l = vec_len l.self.bytes - l.self.read
