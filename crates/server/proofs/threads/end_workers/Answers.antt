use Rattle.std.proofs.Common.{◌∙◌, arith, refl, sym}
use Rattle.std.proofs.lemmas.List.{nil_from_length}
use Rattle.server.proofs.Crew.{all_taken, none_back, one_back}
use Rattle.server.specs.Threads.{IsWorkerBack}
use Rattle.server.proofs.threads.end_workers.Goals as goal

pub workers-init : goal.workers-init
workers-init g c = record {
  room = c.requires;
  count = refl;
  capacity = refl;
  few = omega arith;
  back = none_back (IsWorkerBack g.H.PointHash.hash_of g.A.Handler.may_handle) c.args.workers.items c.args.passes.now.items;
}

pub workers-preserved : goal.workers-preserved
workers-preserved g c =
    let was = c.workers.invariant in let cut = c.in-Some.ensures in let put = c.push_reserved.ensures in record {
      room = omega (arith, cut.cases, put.len, put.capacity, was.room);
      count = omega (arith, cut.cases, put.len, was.count);
      capacity = omega (arith, put.capacity, was.capacity);
      few = omega (arith, put.len, was.few);
      back =
          one_back (IsWorkerBack g.H.PointHash.hash_of g.A.Handler.may_handle) c.args.workers.items c.workers.workers.items c.pop.new.self.items c.in-Some.worker c.join-back.result
          c.args.passes.now.items c.workers.passes.items c.push_reserved.new.self.items c.workers.connections _ cut.items put.items refl c.join-back.ensures was.back;
    }

pub returns-clause-back : goal.returns-clause-back
returns-clause-back g c =
    let was = c.workers.invariant.back in
    let none = nil_from_length c.workers.workers.items (sym c.workers.workers.ok.0 ∙ c.in_default.ensures.cases.0) in
    (was.0, was.1, was.2, all_taken (IsWorkerBack g.H.PointHash.hash_of g.A.Handler.may_handle) c.args.workers.items c.workers.workers.items was.0 none was.3)
