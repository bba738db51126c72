use Rattle.std.proofs.Common.{◌≡◌, ◌+◌, ◌<◌, rules, arith, refl, sym, ◌∙◌, subst, Some}
use Rattle.change_core.specs.Numbers.{greatest_number}
use Rattle.detector_core.proofs.OrderLemmas.{nearer, Contains-turn}
use Rattle.detector_core.proofs.SampleLemmas.{AllDifferent-turn}
use Rattle.detector_core.proofs.prober.Prober.next_target.Goals as goal

pub returns-clause-pick : goal.returns-clause-pick
returns-clause-pick c =
    let pingable = c.args.pingable.now in
    let turn = c.in_ok-target.ensures.turn in
    let unspent : c.self.inside.last < greatest_number = subst (λ s. s.last < greatest_number) (sym c.self.view_is) (c.may_begin.ensures.free.0 (search rules)).1 in
    rw (← c.self.view_is) record {
      number = refl;
      within = omega (arith, unspent);
      target = Contains-turn pingable c.self.inside.order c.pick.new.order c.in_ok-target.target turn;
      turn = turn;
      different = AllDifferent-turn pingable c.self.inside.order c.pick.new.order c.in_ok-target.target c.requires c.self.invariant.different turn;
      nearer = nearer pingable c.self.inside.order c.pick.new.order c.in_ok-target.target turn;
      left = λ j. record { last = c.self.inside.last + 1; helpers = c.self.inside.helpers; rest = c.pick.new.order; generator = c.pick.new.rng; running = Some (record { target = c.in_ok-target.target; asked = c.new.ensures.items j }) };
    }

pub invariant_of-self-2 : goal.invariant_of-self-2
invariant_of-self-2 c =
    let unspent : c.self.inside.last < greatest_number = subst (λ s. s.last < greatest_number) (sym c.self.view_is) (c.may_begin.ensures.free.0 (search rules)).1 in
    record {
      numbered = omega (arith, unspent);
      different = AllDifferent-turn c.args.pingable.now c.self.inside.order c.pick.new.order c.in_ok-target.target c.requires c.self.invariant.different c.in_ok-target.ensures.turn;
      waited = λ p e h. let same : c.new.result.items ≡ p.asked = cc in sym same ∙ c.new.ensures.items;
    }
