use Rattle.std.proofs.Common.{◌≡◌}
use Rattle.ringpop_c.specs.Owners.{address_told}
use Rattle.ringpop_c.proofs.Placed.{placed}
use Rattle.ringpop_c.proofs.owners.put.Given as goal

abbrev pub invariant-loop-index : goal.invariant-loop-index
invariant-loop-index l = l.out ≡ placed address_told l.index l.addresses l.fn.out
