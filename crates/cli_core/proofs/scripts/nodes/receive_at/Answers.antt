use Rattle.cli_core.specs.Simulated.{Receives}
use Rattle.cli_core.proofs.ScriptPlaces.{place_goes}
use Rattle.cli_core.proofs.scripts.nodes.receive_at.Goals as goal

pub returns : goal.returns
returns g c =
    place_goes c.args.nodes.now.items c.args.address c.args.place c.index_mut.result.now c.receive.new.self
    (Receives g.H.PointHash.hash_of c.args.moment c.args.message.now c.receive.result) c.requires c.index_mut.ensures.value c.receive.ensures.step
