use Rattle.cli_core.proofs.ScriptPlaces.{place_set}
use Rattle.cli_core.proofs.scripts.nodes.put_at.Goals as goal

pub returns : goal.returns
returns g c = place_set c.args.nodes.now.items c.args.address c.args.place c.args.node c.requires
