-- Where a server stands, by its memory.
use Rattle.std.specs.Prelude.{◌≡◌, [], Some, None, Option}
use Rattle.packetline.specs.Packets.{packets}
use Rattle.handshake.specs.Sharing.{places_of}
use Rattle.mirror.specs.declared.offered.Offered.{Offered}
use Rattle.mirror.specs.declared.draft.Draft.{Draft}
use Rattle.mirror.specs.declared.content.Content.{Content}
use Rattle.mirror.specs.declared.answer.Answer.{Answer}
use Rattle.mirror.specs.declared.chosen.Chosen.{Chosen}
use Rattle.mirror.specs.declared.server.Standing.{Standing}
use Rattle.mirror.specs.declared.server.Standing.TheVariants.{Hailing, Offering, Naming, Idle, Asking, Hearing, Silent}
use Rattle.mirror.specs.declared.server.Server.{Server}
use Rattle.mirror.specs.Memory.{versions_of, request_of, content_of, waiting_in}
use Rattle.mirror.specs.Stages.{Stage, hailing, offering, naming, idle, asking, hearing, silent, Move}

abbrev pub naming_by : Chosen → Stage
naming_by c = naming c.version (places_of c.shared)

abbrev pub stage_by : Standing → Offered → Draft → Content → Stage
stage_by Hailing o d c = hailing
stage_by Offering o d c = offering (versions_of o)
stage_by (Naming n) o d c = naming_by n
stage_by Idle o d c = idle
stage_by Asking o d c = asking (request_of d)
stage_by Hearing o d c = hearing (content_of c)
stage_by Silent o d c = silent

abbrev pub stage_of : Server → Stage
stage_of s = stage_by s.standing s.offered s.draft s.content

-- the stage at a standing that was found for a server, or silence where none was
abbrev pub stage_found : Option Standing → Server → Stage
stage_found (Some x) s = stage_by x s.offered s.draft s.content
stage_found None s = silent

-- a move was found, which says nothing
pub record Quietly (m : Move) (r : Option Standing) (s' : Server) : Type 0 where
  pub to : m.to ≡ stage_found r s'
  pub quiet : m.says ≡ []

-- a move was found, and what it says waits
pub record Aloud (m : Move) (r : Option Standing) (s' : Server) (a' : Answer) : Type 0 where
  pub to : m.to ≡ stage_found r s'
  pub says : waiting_in a' ≡ packets m.says

-- a move was made, and what it says waits
pub record Moved (m : Move) (s' : Server) (a' : Answer) : Type 0 where
  pub to : stage_of s' ≡ m.to
  pub says : waiting_in a' ≡ packets m.says
