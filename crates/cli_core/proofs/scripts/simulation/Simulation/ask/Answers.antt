use Rattle.cli_core.specs.Simulated.{nodes_in}
use Rattle.cli_core.proofs.ScriptCommands.{asks, lacks, simulated_of}
use Rattle.cli_core.proofs.scripts.simulation.Simulation.ask.Goals as goal

pub returns-clause-answer : goal.returns-clause-answer
returns-clause-answer g c =
    rw (← c.self.view_is) (asks g.H.PointHash.hash_of
    (simulated_of c.self.inside.hash c.self.inside.replicas c.self.inside.moment (nodes_in c.self.inside.nodes.items) c.self.inside.messages.items)
    c.args.address c.args.question.now (nodes_in c.ask_at.new.nodes.items) c.ask_at.result c.ask_at.ensures.answer)

pub returns-clause-fault : goal.returns-clause-fault
returns-clause-fault g c =
    rw (← c.self.view_is) (lacks g.H.PointHash.hash_of
    (simulated_of c.self.inside.hash c.self.inside.replicas c.self.inside.moment (nodes_in c.self.inside.nodes.items) c.self.inside.messages.items)
    c.args.address c.args.question.now (nodes_in c.ask_at.new.nodes.items) c.ask_at.result c.ask_at.ensures.fault c.ask_at.ensures.memory)
