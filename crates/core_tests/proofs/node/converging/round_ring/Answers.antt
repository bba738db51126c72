use Rattle.core_tests.proofs.Ring.{ring_agrees}
use Rattle.core_tests.proofs.node.converging.round_ring.Goals as goal

pub returns : goal.returns
returns g c = λ one_two two_three one_three.
    ring_agrees g.H.PointHash.hash_of c.convergence.ensures.converge c.convergence.ensures.calls c.convergence.ensures.agree
    c.args.one.now.node c.args.two.now.node c.args.three.now.node c.take_all_of-6.new.taker c.take_all_of-4.new.taker c.take_all_of-5.new.taker
    c.len.ensures.whole.kept c.len-2.ensures.whole.kept c.len-3.ensures.whole.kept one_two two_three one_three
    (record {
      b1 = c.take_all_of.new.taker.node;
      c1 = c.take_all_of-2.new.taker.node;
      a1 = c.take_all_of-3.new.taker.node;
      first = c.in_ok-first.ensures;
      second = c.in_ok-second.ensures;
      third = c.in_ok-third.ensures;
      fourth = c.in_ok-fourth.ensures;
      fifth = c.in_ok-fifth.ensures;
      sixth = c.in_ok-sixth.ensures;
    })
    c.len-4.ensures.whole c.len-5.ensures.whole c.len-6.ensures.whole
