use Rattle.std.proofs.Common.{arith, refl, rules}
use Rattle.std.proofs.lemmas.Grind.{common_steps}
use Rattle.server.specs.Working.{hosts_of}
use Rattle.server.proofs.Worked.{no_join, not_yet}
use Rattle.server.proofs.rounds.join_if_due.Goals as goal

pub returns-in_err-moment-clause-joined : goal.returns-in_err-moment-clause-joined
returns-in_err-moment-clause-joined g c =
    no_join c.args.member.now.node g.R.RoundClock.times (hosts_of c.args.server.now.hosts) c.args.last c.args.due c.from_residual.result c.args.member.now.pass.now (search rules) (search rules)

pub returns-then-number-moment-clause-joined : goal.returns-then-number-moment-clause-joined
returns-then-number-moment-clause-joined g c =
    not_yet c.args.member.now.node g.R.RoundClock.times (hosts_of c.args.server.now.hosts) c.args.last c.args.due c.args.due c.in_ok-moment.moment c.moment-now.result c.args.member.now.pass.now
    (search rules) refl c.moment-now.ensures (grind (arith, common_steps))
