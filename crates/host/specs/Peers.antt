-- What a call on a peer does.
use Rattle.std.specs.Prelude.{◌≡◌, Result}
use Rattle.host.specs.declared.fault.LineFault.{LineFault}
use Rattle.host.specs.declared.peer.Peer.{Peer}
use Rattle.host.specs.Worlds.{World}
use Rattle.host.specs.Acts.{Log}
use Rattle.host.specs.Talk.{Wire, Got, Sight, sight, Works}

-- what is seen of a peer's host
abbrev pub seen : {H : Type 0} → (H → Log) → (H → World) → Peer H → Sight
seen log world p = sight (log p.host.now) (world p.host.now)

-- the same host, process and work area are held: asked of each function that takes a peer, since a reference in a struct could be put in another's place
pub record SameLent {H : Type 0} (p p' : Peer H) : Type 0 where
  pub host : p'.host.ghost_name ≡ p.host.ghost_name
  pub process : p'.process ≡ p.process
  pub work : p'.work.ghost_name ≡ p.work.ghost_name

-- A call on a peer answered r, and what it did is f: its process talked so, over the host and the work area that the peer holds.
pub record Does {H A : Type 0} (log : H → Log) (world : H → World) (f : Wire → Got A) (p : Peer H) (r : Result A LineFault) (p' : Peer H) : Type 0 where
  pub lent : SameLent p p'
  pub talks : Works f (seen log world p) p.process p.work.now r (seen log world p') p'.work.now
