use Rattle.cli_core.specs.Simulated.{Pings}
use Rattle.cli_core.proofs.ScriptPlaces.{place_goes}
use Rattle.cli_core.proofs.scripts.nodes.ping_at.Goals as goal

pub returns-in-Ok-clause-message : goal.returns-in-Ok-clause-message
returns-in-Ok-clause-message g c =
    place_goes c.args.nodes.now.items c.args.address c.args.place c.index_mut.result.now c.ping_to.new.self
    (Pings g.H.PointHash.hash_of c.args.target c.in-Ok.message) c.requires c.index_mut.ensures.value c.in-Ok.ensures.step
