-- What a table says to a process is what its contracts call greeting and exchange.
use Rattle.std.proofs.Common.{◌≡◌, ℕ, List, [], ◌∷◌, ◌++◌, map, codes, Result, subst}
use Rattle.slices.specs.declared.name.Name.{Name}
use Rattle.slices.specs.Names.{name_bytes}
use Rattle.packetline.specs.Packets.{Pkt, flush}
use Rattle.host.specs.declared.fault.LineFault.{LineFault}
use Rattle.host.specs.declared.peer.Peer.{Peer}
use Rattle.host.specs.Worlds.{World}
use Rattle.host.specs.Acts.{Log}
use Rattle.host.specs.Peers.{seen}
use Rattle.host.specs.Talk.{Wire, Got, Areas, areas, Sight, sight, Talks, Works}
use Rattle.process.specs.declared.status.Status.{Status}
use Rattle.process.specs.Peers.{DoesBy}
use Rattle.process.proofs.Peering.{back_by}
use Rattle.handshake.specs.Handshakes.{handshake, Shaken, HandshakeLaw}
use Rattle.client.specs.Requests.{command_line}
use Rattle.records.specs.declared.operation.Operation.{Operation}
use Rattle.records.specs.Operations.{operation_name, desired}
use Rattle.rules.specs.Steps.{pair_line, request_for, exchange, greeting}
use Rattle.rules.proofs.Talking.{greeting_by}

-- a talk that goes as f goes as g, where both are equal at every wire
talks_as : {A : Type 0} {f g : Wire → Got A} {w : Sight} {p : ℕ} {a : Areas} {r : Result A LineFault} {w' : Sight} {a' : Areas} → ((v : Wire) → f v ≡ g v) → Talks f w p a r w' a' → Talks g w p a r w' a'
talks_as {w = w} {p = p} {a = a} {r = r} {w' = w'} {a' = a'} same t = subst (λ h. Talks h w p a r w' a') (λ j v. same v j) t

-- a handshake with a table's prefix and names
pub greets : {H : Type 0} (log : H → Log) (world : H → World) {p p' : Peer H} {r : Result (Result Shaken ℕ) LineFault} (host : H) (work : List ℕ) (prefix : List ℕ) (names : List Name) → prefix ≡ codes "git-filter"
    → map name_bytes names ≡ desired → DoesBy log world (HandshakeLaw prefix (2 ∷ []) names) (handshake prefix (2 ∷ []) names) p r p' → host ≡ p'.host.now → work ≡ p'.work.now
    → Works greeting (seen log world p) p.process p.work.now r (sight (log host) (world host)) work
greets log world {p} {p'} {r} host work prefix names is spell d h k status =
    talks_as (greeting_by names spell)
    (subst (λ x. Talks (handshake x (2 ∷ []) names) (seen log world p) p.process (areas p.work.now status) r (sight (log host) (world host)) (areas work status)) is (back_by log world host work d h k status).0)

-- an operation's command and lines of metadata, of which the first has the path
pub exchanged : {w : Sight} {p : ℕ} {a : Areas} {r : Result Status LineFault} {w' : Sight} {a' : Areas} (op : Operation) (path : List ℕ) (more : List Pkt) (command : List ℕ) (lines : List Pkt) (content : List ℕ)
    → command ≡ operation_name op → lines ≡ pair_line (codes "pathname") path ∷ more → Talks (exchange (command_line command ∷ (lines ++ flush ∷ [])) content) w p a r w' a'
    → Talks (exchange (request_for op path more) content) w p a r w' a'
exchanged op path more command lines content is same t = talks_as (λ v j. exchange (command_line (is j) ∷ (same j ++ flush ∷ [])) content v) t
