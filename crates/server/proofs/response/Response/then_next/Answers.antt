use Rattle.server.proofs.response.Response.then_next.Goals as goal

pub returns-clause-goes : goal.returns-clause-goes
returns-clause-goes g c = rw c.done.ensures at c.next_request.ensures.goes
