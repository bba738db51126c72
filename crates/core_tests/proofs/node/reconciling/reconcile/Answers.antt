use Rattle.core_tests.proofs.node.reconciling.reconcile.Goals as goal

pub returns : goal.returns
returns g c = λ apart hash replicas.
    c.reconciliation.ensures.agree c.args.one.now c.args.other.now c.take_all_of-3.new.taker c.take_all_of-2.new.taker
    c.len.ensures.whole.kept c.len-2.ensures.whole.kept apart
    (record {
      between = c.take_all_of.new.taker.node;
      first = c.in_ok-first.ensures;
      second = c.in_ok-second.ensures;
      third = c.in_ok-third.ensures;
    })
    c.len-3.ensures.whole c.len-4.ensures.whole hash replicas
