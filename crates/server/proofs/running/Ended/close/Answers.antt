use Rattle.std.specs.Arc.{arc_value}
use Rattle.server.proofs.Crew.{all_fit, closed_so}
use Rattle.server.proofs.running.Ended.close.Goals as goal

pub close-requires : goal.close-requires
close-requires g c =
    all_fit (arc_value c.args.self.server).node c.in-Some.node c.args.self.workers.items c.args.handles.items c.in_ok-passes.passes.items c.args.self.rounds c.in-Some.ensures
    c.in_ok-passes.ensures.all c.requires.workers c.requires.handles c.requires.rounds

pub returns-in-Ok-clause-closed : goal.returns-in-Ok-clause-closed
returns-in-Ok-clause-closed g c =
    closed_so (arc_value c.args.self.server).node c.in-Some.node c.args.self.workers.items c.args.handles.items c.in_ok-passes.passes.items c.args.self.rounds c.in-Some.ensures
    c.in_ok-passes.ensures.all g.H.PointHash.hash_of c.in-Ok.node c.in-Ok.ensures.closed
