use Rattle.std.proofs.Common.{arith, refl}
use Rattle.std.specs.Arc.{arc_value}
use Rattle.cli_net.proofs.Entered.{cannot_close, closed_alone, counted_well}
use Rattle.cli_net.proofs.serving.close.Goals as goal

pub returns-in-Ok-clause-closed : goal.returns-in-Ok-clause-closed
returns-in-Ok-clause-closed g c =
    closed_alone g.H.PointHash.hash_of (arc_value c.args.ended.server).node c.args.ended.workers.items c.new.result.items c.args.ended.rounds c.in-Ok.node c.new.ensures.items
    c.in-Ok.ensures.closed

pub returns-in-Err-clause-fault : goal.returns-in-Err-clause-fault
returns-in-Err-clause-fault g c =
    cannot_close c.close.result c.in-Err.error c.fault_of.result c.in-Err.is
    (λ full. absurd (omega (arith, c.close.ensures.memory full, c.requires.room, c.new.ensures.len))) c.fault_of.ensures

pub returns-in-Err-clause-miscounted : goal.returns-in-Err-clause-miscounted
returns-in-Err-clause-miscounted g c = λ is. absurd (counted_well c.in-Err.error c.fault_of.result _ c.fault_of.ensures refl is)
