use Rattle.cli_core.proofs.owners.owner_run.Goals as goal

pub returns-then-words-clause-output : goal.returns-then-words-clause-output
returns-then-words-clause-output g c = rw c.if-words.true c.owner_run_by.ensures.output

pub returns-then-words-clause-left : goal.returns-then-words-clause-left
returns-then-words-clause-left g c = rw c.if-words.true c.owner_run_by.ensures.left

pub returns-else-words-clause-output : goal.returns-else-words-clause-output
returns-else-words-clause-output g c = rw c.if-words.false c.owner_run_by-else-words.ensures.output

pub returns-else-words-clause-left : goal.returns-else-words-clause-left
returns-else-words-clause-left g c = rw c.if-words.false c.owner_run_by-else-words.ensures.left
