use Rattle.std.proofs.Common.{ap, arith, rules, ◌∙◌}
use Rattle.std.proofs.lemmas.Grind.{common_steps}
use Rattle.peer_core.specs.MemberErrors.{error_of_round, widened}
use Rattle.server.specs.Working.{first_join, hosts_of}
use Rattle.server.proofs.Worked.{a_round, by_same, done_same, plain_rounds, rounds_join, rounds_more, rounds_none, then_same}
use Rattle.server.proofs.rounds.make_rounds_over.Goals as goal

pub loop-init : goal.loop-init
loop-init g c =
    let member = c.args.member.now in
    let Time = g.R.RoundClock.times in
    let hosts = hosts_of c.args.server.now.hosts in
    let first = first_join hosts in
    let joined = c.join_if_due-due in record {
      iterates = search rules;
      made =
          rounds_join member.node Time c.args.period hosts first c.beginning-last.result c.first_join-first.result joined.result member.pass.now member.pass.now joined.new.member.pass.now
          (rounds_none member.node Time c.args.period hosts first c.beginning-last.result c.first_join-first.result member.pass.now c.beginning-last.ensures (c.first_join-first.ensures ∙ ap first_join c.hosts.ensures)) joined.ensures.joined;
      same = joined.ensures.same;
    }

pub loop-preserved : goal.loop-preserved
loop-preserved g c =
    let member = c.args.member.now in
    let Time = g.R.RoundClock.times in
    let hosts = hosts_of c.args.server.now.hosts in
    let first = first_join hosts in
    let now = c.moment-now.result in
    let before = c.loop.invariant in
    let round = c.round-round in
    let joined = c.join_if_due-due-in-loop in
    let same = then_same before.same (done_same round.ensures.done) in record {
      iterates = search rules;
      made =
          rounds_join member.node Time c.args.period hosts first now c.loop.due joined.result member.pass.now round.new.self.pass.now joined.new.member.pass.now
          (rounds_more member.node Time c.args.period hosts first c.loop.last now c.loop.due member.pass.now c.loop.member.pass.now round.new.self.pass.now before.made
          (by_same before.same (a_round c.loop.member.node Time c.args.period c.loop.last now (widened error_of_round round.result) c.loop.member.pass.now round.new.self.pass.now
          (c.rest.ensures (grind (arith, common_steps))) c.moment-now.ensures round.ensures.done.does)))
          (by_same same joined.ensures.joined);
      same = then_same same joined.ensures.same;
    }

pub returns-clause-made : goal.returns-clause-made
returns-clause-made g c =
    plain_rounds c.args.member.now.node g.R.RoundClock.times c.args.period (hosts_of c.args.server.now.hosts) c.loop.last c.loop.due c.args.member.now.pass.now
    c.loop.member.pass.now c.loop.invariant.made

pub returns-then-not-rest-clause-made : goal.returns-then-not-rest-clause-made
returns-then-not-rest-clause-made g c =
    plain_rounds c.args.member.now.node g.R.RoundClock.times c.args.period (hosts_of c.args.server.now.hosts) c.loop.last c.loop.due c.args.member.now.pass.now
    c.loop.member.pass.now c.loop.invariant.made
