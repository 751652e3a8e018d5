-- What a call on a peer does, with a law of what passed.
use Rattle.std.specs.Prelude.{◌≡◌, Result}
use Rattle.host.specs.declared.fault.LineFault.{LineFault}
use Rattle.host.specs.declared.peer.Peer.{Peer}
use Rattle.host.specs.Worlds.{World}
use Rattle.host.specs.Acts.{Log}
use Rattle.host.specs.Peers.{seen, SameLent}
use Rattle.host.specs.Talk.{Wire, Got, areas}
use Rattle.process.specs.declared.area.StatusArea.{StatusArea}
use Rattle.process.specs.Given.{Law, TalksBy, WorksBy}

-- a call on a peer goes as f says, and a law holds of what passed
pub record DoesBy {H A : Type 0} (log : H → Log) (world : H → World) (law : Law A) (f : Wire → Got A) (p : Peer H) (r : Result A LineFault) (p' : Peer H) : Type 0 where
  pub lent : SameLent p p'
  pub talks : WorksBy law f (seen log world p) p.process p.work.now r (seen log world p') p'.work.now

-- the same of a call that is lent a status area too
pub record DoesWith {H A : Type 0} (log : H → Log) (world : H → World) (law : Law A) (f : Wire → Got A) (p : Peer H) (s : StatusArea) (r : Result A LineFault) (p' : Peer H) (s' : StatusArea) : Type 0 where
  pub lent : SameLent p p'
  pub same_area : s'.bytes.ghost_name ≡ s.bytes.ghost_name
  pub talks : TalksBy law f (seen log world p) p.process (areas p.work.now s.bytes.now) r (seen log world p') (areas p'.work.now s'.bytes.now)
