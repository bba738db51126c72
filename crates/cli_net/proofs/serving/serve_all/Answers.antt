use Rattle.std.specs.Arc.{arc_value}
use Rattle.cli_net.proofs.Entered.{ended_by}
use Rattle.cli_net.proofs.serving.serve_all.Goals as goal

pub returns-in-Ok-clause-ended : goal.returns-in-Ok-clause-ended
returns-in-Ok-clause-ended g c =
    let ended = c.in-Ok.ended in
    let back = c.in-Ok.ensures in
    ended_by g.R.RoundClock.times g.H.PointHash.hash_of c.args.server (arc_value ended.server) c.args.period c.args.timer ended.rounds c.args.workers.items ended.workers.items
    ended.connections c.close.result back.server back.rounds back.resting back.connections c.close.ensures.count c.close.ensures.closed
