use Rattle.cli_core.proofs.scripts.simulation.Simulation.obey.Goals as goal

pub returns-in-Ask-clause-answer : goal.returns-in-Ask-clause-answer
returns-in-Ask-clause-answer g c = rw c.in-Ask.is c.ask.ensures.answer

pub returns-in-Ask-clause-fault : goal.returns-in-Ask-clause-fault
returns-in-Ask-clause-fault g c = rw c.in-Ask.is c.ask.ensures.fault
