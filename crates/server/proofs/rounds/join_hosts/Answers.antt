use Rattle.std.proofs.Common.{None, Some, ap, sym, ℕ, ◌+◌, ◌∙◌}
use Rattle.peer_core.specs.MemberErrors.{error_of_join, widened}
use Rattle.server.specs.Working.{hosts_of, next_join}
use Rattle.server.proofs.Worked.{a_join, first_few}
use Rattle.server.proofs.rounds.join_hosts.Goals as goal

pub returns-in-Ok-clause-joined : goal.returns-in-Ok-clause-joined
returns-in-Ok-clause-joined g c =
    let hosts = hosts_of c.args.server.now.hosts in
    let node = c.args.member.now.node in
    let Time = g.R.RoundClock.times in
    a_join node Time c.args.now hosts _ (widened error_of_join c.join.result) None c.args.member.now.pass.now c.join.new.self.pass.now
    (first_few node Time c.min.result c.hosts-hosts.result.now hosts c.min.ensures c.hosts-hosts.ensures)
    (ap (λ r. next_join c.args.now (widened error_of_join r)) (sym c.in-Ok.is)) c.join.ensures.done.does

pub returns-in-Err-clause-joined : goal.returns-in-Err-clause-joined
returns-in-Err-clause-joined g c =
    let hosts = hosts_of c.args.server.now.hosts in
    let node = c.args.member.now.node in
    let Time = g.R.RoundClock.times in
    a_join node Time c.args.now hosts _ (widened error_of_join c.join.result) (Some (c.number.result + 1000)) c.args.member.now.pass.now c.join.new.self.pass.now
    (first_few node Time c.min.result c.hosts-hosts.result.now hosts c.min.ensures c.hosts-hosts.ensures)
    (ap (λ (n : ℕ). Some (n + 1000)) c.number.ensures.value ∙ ap (λ r. next_join c.args.now (widened error_of_join r)) (sym c.in-Err.is)) c.join.ensures.done.does
