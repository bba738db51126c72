use Rattle.std.proofs.Common.{arith, rules, ◌∙◌, refl}
use Rattle.std.proofs.lemmas.Grind.{common_steps}
use Rattle.std.specs.Prelude.{IsTrue}
use Rattle.cluster_core.proofs.Worked.{none_yet, served_more}
use Rattle.cluster_core.proofs.clusters.work_over.Goals as goal

pub jobs-init : goal.jobs-init
jobs-init g c = record {
  iterates = search rules;
  node = refl;
  pass = refl;
  served = none_yet c.args.member.now.node g.H.PointHash.hash_of g.A.HandlerMut.handled c.args.handler.now c.args.member.now.pass.now;
}

pub jobs-preserved : goal.jobs-preserved
jobs-preserved g c =
    let yes : IsTrue c.serve_next.result = grind (arith, common_steps) in
    let next = c.serve_next.ensures.served yes in
    record {
      iterates = search rules;
      node = next.1.1.node ∙ c.jobs.invariant.node;
      pass = next.1.1.pass ∙ c.jobs.invariant.pass;
      served = served_more c.args.member.now.node g.H.PointHash.hash_of g.A.HandlerMut.handled next.0 c.args.handler.now c.jobs.handler c.serve_next.new.handler c.args.member.now.pass.now
          c.jobs.member c.serve_next.new.member c.jobs.invariant.node c.jobs.invariant.served next.1;
    }
