use Rattle.cli_net.proofs.owners.owner_in.Goals as goal

pub returns-then-words-clause-fault : goal.returns-then-words-clause-fault
returns-then-words-clause-fault c = rw c.if-words.true c.owner_by.ensures.fault

pub returns-else-words-clause-fault : goal.returns-else-words-clause-fault
returns-else-words-clause-fault c = rw c.if-words.false c.owner_by-else-words.ensures.fault
