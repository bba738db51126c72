use Rattle.line_service.proofs.answering.own_line.Goals as goal

pub returns-in-Some-clause-short : goal.returns-in-Some-clause-short
returns-in-Some-clause-short c = rw c.in-Some.ensures.same (c.in-Ok.ensures.line.1.within)
