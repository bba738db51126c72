use Rattle.cli_core.proofs.ScriptPlaces.{NoneBefore}
use Rattle.cli_core.proofs.scripts.nodes.place_of.Given as goal

-- none so far is of the address
abbrev pub invariant-nodes : goal.invariant-nodes
invariant-nodes g l = NoneBefore l.nodes l.address l.place
