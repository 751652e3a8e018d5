use Rattle.std.proofs.Common.{◌≡◌, true, [], ◌∷◌, None, Result}
use Rattle.std.proofs.lemmas.Bool.{cond-true}
use Rattle.packetline.specs.Packets.{flush, line, packets}
use Rattle.host.specs.declared.fault.LineFault.{LineFault}
use Rattle.host.specs.Talk.{sight, areas}
use Rattle.process.specs.Given.{have_room, rooms, TalksBy}
use Rattle.process.specs.declared.status.Status.TheVariants.{Previous}
use Rattle.client.specs.Results.{Piece, payload, final, read_piece, PieceLaw}
use Rattle.mirror.specs.Stages.{idle}
use Rattle.mirror.specs.Worlds.{world_of, StandsAt}
use Rattle.mirrored.proofs.Coming.{at}
use Rattle.mirrored.proofs.Exchanging.{settled_did, checked_did, takes_content, takes_end}
use Rattle.mirrored.proofs.exchange.take.Goals as goal

pub returns : goal.returns
returns c =
    let none = λ (h : have_room c.args.work.now c.args.status.now ≡ true). cond-true (have_room c.args.work.now c.args.status.now) None _ h in
    let does = λ (x : Result Piece LineFault).
    TalksBy PieceLaw read_piece (sight None (world_of c.args.mirror.now)) c.args.client.process (areas c.args.work.now c.args.status.now) x (sight None (world_of c.read.new.host)) (areas c.read.new.work c.read.new.status) in
    record {
      content = λ names n x here ok h.
          checked_did (rooms c.args.work.now c.args.status.now) does _ _ (payload x) (StandsAt (world_of c.read.new.host) c.args.client.process names idle (packets (flush ∷ flush ∷ [])) n) (none h) c.read.ensures.goes
          (λ y (t : does y). settled_did t.0 (at names idle (packets (line x ∷ flush ∷ flush ∷ [])) n) (payload x) (at names idle (packets (flush ∷ flush ∷ [])) n) here (takes_content names x n ok));
      ends = λ names n here h.
          checked_did (rooms c.args.work.now c.args.status.now) does _ _ (final Previous) (StandsAt (world_of c.read.new.host) c.args.client.process names idle [] n) (none h) c.read.ensures.goes
          (λ y (t : does y). settled_did t.0 (at names idle (packets (flush ∷ flush ∷ [])) n) (final Previous) (at names idle [] n) here (takes_end names n));
    }
