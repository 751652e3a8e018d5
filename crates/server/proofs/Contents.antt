-- One read of a request's content.
use Rattle.std.proofs.Common.{◌≡◌, ℕ, ◌≤◌, length, List, [], ◌∷◌, Some, None, Ok, Err, Option, Result, sym, ap, ◌∙◌, subst, arith}
use Rattle.packetline.specs.Packets.{flush, line, Decoded, packets, flushes_of}
use Rattle.host.specs.declared.fault.LineFault.{LineFault}
use Rattle.host.specs.declared.peer.Peer.{Peer}
use Rattle.host.specs.Worlds.{World}
use Rattle.host.specs.Acts.{Log}
use Rattle.host.specs.Peers.{seen, Does}
use Rattle.std.proofs.lemmas.Bool.Decides.{nat_tests}
use Rattle.host.specs.Calls.{room}
use Rattle.host.specs.Talk.{bytes_sent, bytes_given, Areas, read_content, shown_part, Sight, sight, Talks}
use Rattle.process.specs.Given.{TalksBy, WorksBy}
use Rattle.process.proofs.Peering.{back_by}
use Rattle.process.proofs.Passes.{Content, NoContent, only_content_passes, Told, told_by_talk}
use Rattle.process.proofs.Tellings.{reads_same}
use Rattle.server.specs.Requests.{ContentLaw}

-- an area that is long enough
pub room_there : (work : List ℕ) → 65520 ≤ length work → room work ≡ None
room_there work h = grind (arith, nat_tests)

law_by : (sent given : List ℕ) (r : Result (Option (List ℕ)) LineFault) → Told Content NoContent sent given r → ContentLaw sent given r
law_by sent given (Ok (Some l)) (gs, (ss, reads, said, h)) =
    record {
      silent = said ∙ ap packets h.1;
      payloads = λ x e. let same : gs ≡ line x ∷ [] = cc in reads ∙ ap (λ ps. record { packets = ps; left = [] }) same;
      all_payloads = λ x e. let same = reads_same given gs (line x ∷ []) reads e in cc;
      ends = λ e. let z : ◌≡◌ {A = ℕ} 0 1 = cc in absurd (omega arith);
      all_ends = λ e. let same = reads_same given gs (flush ∷ []) reads e in let z : ◌≡◌ {A = ℕ} 0 1 = cc in absurd (omega arith);
    }
law_by sent given (Ok None) (gs, (ss, reads, said, h)) =
    record {
      silent = said ∙ ap packets h.1;
      payloads = λ x e. let z : ◌≡◌ {A = ℕ} 0 1 = cc in absurd (omega arith);
      all_payloads = λ x e. let same = reads_same given gs (line x ∷ []) reads e in let z : ◌≡◌ {A = ℕ} 0 1 = cc in absurd (omega arith);
      ends = λ e. reads ∙ ap (λ ps. record { packets = ps; left = [] }) h.0;
      all_ends = λ e. cc;
    }
law_by sent given (Err f) (gs, (ss, reads, said, h)) =
    record {
      silent = said ∙ ap packets h.1;
      payloads = λ x e. let z : ◌≡◌ {A = ℕ} 0 1 = cc in absurd (omega arith);
      all_payloads = λ x e. absurd (h.2 x (sym reads ∙ ap (λ (y : Decoded). y.packets) e));
      ends = λ e. let z : ◌≡◌ {A = ℕ} 0 1 = cc in absurd (omega arith);
      all_ends = λ e.
          let same : gs ≡ flush ∷ [] = sym reads ∙ ap (λ (y : Decoded). y.packets) e in
          let n = ap flushes_of same in
          let none = h.0 in
          absurd (omega arith);
    }

-- one read has its law
content_talk : {w : Sight} {p : ℕ} {a : Areas} {r : Result (Option (List ℕ)) LineFault} {w' : Sight} {a' : Areas} → Talks read_content w p a r w' a' → TalksBy ContentLaw read_content w p a r w' a'
content_talk {r = r} t = (t, law_by (bytes_sent t.events) (bytes_given t.events) r (told_by_talk Content NoContent read_content only_content_passes t))

-- what a caller knows of the host and the area that he lent, once the peer is gone
pub back_content : {H : Type 0} (log : H → Log) (world : H → World) {p p' : Peer H} (host : H) (work : List ℕ) (r : Result (Option ℕ) LineFault)
    → Does log world read_content p (shown_part p'.work.now r) p' → host ≡ p'.host.now → work ≡ p'.work.now
    → WorksBy ContentLaw read_content (seen log world p) p.process p.work.now (shown_part work r) (sight (log host) (world host)) work
back_content log world {p} {p'} host work r d h w =
    subst (λ x. WorksBy ContentLaw read_content (seen log world p) p.process p.work.now (shown_part x r) (sight (log host) (world host)) work) (sym w)
    (back_by log world {law = ContentLaw} host work (record { lent = d.lent; talks = λ status. content_talk (d.talks status) }) h w)
