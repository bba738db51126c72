use Rattle.std.proofs.Common.{List, ap, arith, rules, ◌∙◌}
use Rattle.std.proofs.lemmas.Grind.{common_steps}
use Rattle.change_core.specs.declared.addresses.Address.{Address}
use Rattle.peer_core.specs.Healing.{heals_first}
use Rattle.peer_core.specs.MemberErrors.{error_of_call, error_of_round, widened}
use Rattle.server.specs.Working.{first_join, hosts_of}
use Rattle.server.proofs.Worked.{a_healing, a_correcting_round, by_same, done_same, heals_join, heals_more, heals_none, heals_plan, then_same}
use Rattle.server.proofs.rounds.make_healing_rounds_over.Goals as goal

pub loop-init : goal.loop-init
loop-init g c =
    let member = c.args.member.now in
    let Time = g.R.RoundClock.times in
    let hosts = hosts_of c.args.server.now.hosts in
    let start = heals_first c.args.plan.now.own c.args.plan.now.hosts.items in
    let first = first_join hosts in
    let joined = c.join_if_due-due in record {
      iterates = search rules;
      made =
          heals_join member.node Time c.args.period hosts start c.new-healing.result first c.beginning-last.result c.first_join-start.result joined.result member.pass.now member.pass.now
          joined.new.member.pass.now
          (heals_none member.node Time c.args.period hosts start c.new-healing.result first c.beginning-last.result c.first_join-start.result member.pass.now
          (c.new-healing.ensures ∙ ap (λ (xs : List Address). heals_first c.args.plan.now.own xs) c.as_slice.ensures.value) c.beginning-last.ensures (c.first_join-start.ensures ∙ ap first_join c.hosts.ensures))
          joined.ensures.joined;
      same = joined.ensures.same;
    }

pub loop-preserved : goal.loop-preserved
loop-preserved g c =
    let member = c.args.member.now in
    let Time = g.R.RoundClock.times in
    let hosts = hosts_of c.args.server.now.hosts in
    let start = heals_first c.args.plan.now.own c.args.plan.now.hosts.items in
    let first = first_join hosts in
    let now = c.moment-now.result in
    let before = c.loop.invariant in
    let round = c.correcting_round-made in
    let healed = c.heal-healed in
    let joined = c.join_if_due-due-in-loop in
    let rounded = then_same before.same (done_same round.ensures.done) in
    let same = then_same rounded (done_same healed.ensures.healed) in record {
      iterates = search rules;
      made =
          heals_join member.node Time c.args.period hosts start healed.new.healing first now c.loop.due joined.result member.pass.now healed.new.self.pass.now joined.new.member.pass.now
          (heals_more member.node Time c.args.period hosts start c.loop.healing healed.new.healing first c.loop.last now c.loop.due member.pass.now c.loop.member.pass.now
          round.new.self.pass.now healed.new.self.pass.now healed.ensures.healing before.made
          (by_same before.same (a_correcting_round c.loop.member.node Time c.args.period c.loop.last now (widened error_of_round round.result) c.loop.member.pass.now round.new.self.pass.now
          (c.rest.ensures (grind (arith, common_steps))) c.moment-now.ensures round.ensures.done.does))
          (by_same rounded (a_healing round.new.self.node Time now c.loop.healing (widened error_of_call healed.result) round.new.self.pass.now healed.new.self.pass.now healed.ensures.healed.does)))
          (by_same same joined.ensures.joined);
      same = then_same same joined.ensures.same;
    }

pub returns-clause-made : goal.returns-clause-made
returns-clause-made g c =
    heals_plan c.args.member.now.node g.R.RoundClock.times c.args.period (hosts_of c.args.server.now.hosts) c.args.plan.now c.loop.healing c.loop.last c.loop.due c.args.member.now.pass.now
    c.loop.member.pass.now c.loop.invariant.made

pub returns-then-not-rest-clause-made : goal.returns-then-not-rest-clause-made
returns-then-not-rest-clause-made g c =
    heals_plan c.args.member.now.node g.R.RoundClock.times c.args.period (hosts_of c.args.server.now.hosts) c.args.plan.now c.loop.healing c.loop.last c.loop.due c.args.member.now.pass.now
    c.loop.member.pass.now c.loop.invariant.made
