use Rattle.server.proofs.request.Request.read.Goals as goal

pub returns-in-Ok-Some-clause-goes : goal.returns-in-Ok-Some-clause-goes
returns-in-Ok-Some-clause-goes g c = rw c.in-Ok-Some.field-0-is at c.in-Ok-Some.ensures.goes

pub returns-in-Ok-None-clause-goes : goal.returns-in-Ok-None-clause-goes
returns-in-Ok-None-clause-goes g c = rw c.in-Ok-None.field-0-is at c.in-Ok-None.ensures.goes
