-- What a server does with a packet, by where it stands.
use Rattle.std.proofs.Common.{◌≡◌, ℕ, ◌-◌, List, [], take, drop, Option, sym, ap, ◌∙◌, subst, arith}
use Rattle.slices.specs.declared.name.Name.{Name}
use Rattle.packetline.specs.Packets.{Pkt, packets}
use Rattle.mirror.specs.declared.answer.Answer.{Answer}
use Rattle.mirror.specs.declared.server.Standing.{Standing}
use Rattle.mirror.specs.declared.server.Server.{Server}
use Rattle.mirror.specs.Memory.{waiting_in}
use Rattle.mirror.specs.Stages.{Move, hears}
use Rattle.mirror.specs.Servers.{stage_by, stage_of, Quietly, Aloud}

pub nothing_waits : (a : Answer) → a.to ≡ 0 → waiting_in a ≡ []
nothing_waits a e = let z : a.to - a.from ≡ 0 = omega arith in ap (λ n. take n (drop a.from a.bytes)) z

-- where nothing is said, nothing waits
pub quiet_aloud : {m : Move} {r : Option Standing} {s' : Server} (a : Answer) → a.to ≡ 0 → Quietly m r s' → Aloud m r s' a
quiet_aloud a e q = record { to = q.to; says = nothing_waits a e ∙ sym (ap packets q.quiet) }

-- a move from where a server stands
pub stands_so :
    (prefix : List ℕ) (names : List Name) (s : Server) (x : Standing) (p : Pkt) (r : Option Standing) (s' : Server) (a' : Answer) → s.standing ≡ x
    → Aloud (hears prefix names (stage_by x s.offered s.draft s.content) p) r s' a' → Aloud (hears prefix names (stage_of s) p) r s' a'
stands_so prefix names s x p r s' a' e h = subst (λ y. Aloud (hears prefix names (stage_by y s.offered s.draft s.content) p) r s' a') (sym e) h
