use Rattle.std.proofs.Common.{vec_len, vec_capacity}
use Rattle.node_core.proofs.Pinging.{HasFound}
use Rattle.node_core.proofs.pingable.list_pingable.Given as goal

abbrev pub invariant-loop-change : goal.invariant-loop-change
invariant-loop-change l = HasFound l.own l.members l.change-index l.found.items (vec_len l.found) (vec_capacity l.found)
