use Rattle.std.proofs.Common.{ap, ◌∙◌, arith}
use Rattle.ringpop_c.specs.Owners.{address_told}
use Rattle.ringpop_c.proofs.Placed.{placed_more}
use Rattle.ringpop_c.proofs.owners.put.Goals as goal

pub loop-index-preserved : goal.loop-index-preserved
loop-index-preserved c =
    placed_more address_told c.args.addresses.now c.args.out.now c.loop-index.out c.loop-index.index c.index-addresses-index.result c.of.result
    (omega arith) (omega arith) c.loop-index.invariant (c.of.ensures ∙ ap address_told c.index-addresses-index.is)
