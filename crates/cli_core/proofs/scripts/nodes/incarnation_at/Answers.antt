use Rattle.std.proofs.Common.{ap}
use Rattle.change_core.specs.declared.changes.Change.{Change}
use Rattle.cli_core.proofs.ScriptPlaces.{place_incarnation}
use Rattle.cli_core.proofs.scripts.nodes.incarnation_at.Goals as goal

pub returns : goal.returns
returns g c =
    place_incarnation c.args.nodes.now c.args.address c.args.place c.index-nodes-place.result c.own.result.incarnation c.requires c.index-nodes-place.is (ap (λ (d : Change). d.incarnation) c.own.ensures)
