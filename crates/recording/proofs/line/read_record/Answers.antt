use Rattle.std.proofs.Common.{sym, arith}
use Rattle.std.proofs.lemmas.Bool.{eqb-true}
use Rattle.recording.proofs.Behind.{no_bytes}
use Rattle.recording.proofs.line.read_record.Goals as goal

pub returns-then-is_empty : goal.returns-then-is_empty
returns-then-is_empty c =
    no_bytes c.args.direction c.args.rest.now _ _ c.in-Some-eq32-default.ensures.cases.0 (omega arith) (eqb-true _ 0 (sym c.if-is_empty.ensures))
