use Rattle.std.proofs.lemmas.List.Elements.{All-pop}
use Rattle.locked_node.specs.Passes.{Fits}
use Rattle.agent_node.proofs.callers.take_pass.Goals as goal

pub returns : goal.returns
returns c =
    let cut = All-pop (Fits c.args.node.now) c.args.passes.now.items c.pop.new.self.items c.pop.result c.pop.ensures.items c.requires in record {
      fits = cut.1;
      rest = cut.0;
    }
