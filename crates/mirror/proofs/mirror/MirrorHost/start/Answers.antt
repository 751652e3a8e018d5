use Rattle.std.proofs.Common.{ℕ, ◌^◌, List, [], ap, ◌∙◌, arith}
use Rattle.host.specs.Worlds.{live}
use Rattle.mirror.specs.Plans.{pipe_at}
use Rattle.mirror.specs.Stages.{hailing}
use Rattle.mirror.specs.Memory.{prefix_of}
use Rattle.mirror.proofs.Mirroring.{starts, started_there}
use Rattle.mirror.proofs.mirror.MirrorHost.start.Goals as goal

pub returns-clause-goes : goal.returns-clause-goes
returns-clause-goes c =
    let m = c.args.self.now in
    starts (prefix_of m.house) m.house.names m.seats m.count (omega arith) (omega arith) c.args.command.now (omega arith) c.start_at.new.seats c.start_at.ensures c.start_at.ensures.seat

pub returns-clause-stands : goal.returns-clause-stands
returns-clause-stands c =
    let m = c.args.self.now in (
      m.house.names,
      m.house.can,
      started_there (prefix_of m.house) m.house.names m.seats m.count (omega arith) (omega arith) c.args.command.now (omega arith) c.start_at.new.seats c.start_at.ensures c.start_at.ensures.seat
          ∙ ap (λ (b : List ℕ). live (pipe_at b m.house.names hailing [] (2 ^ 40))) m.house.called,
    )
