use Rattle.std.proofs.Common.{Some, arith}
use Rattle.std.proofs.lemmas.List.Elements.{All-pop}
use Rattle.std.specs.Arc.{arc_value}
use Rattle.locked_node.specs.Passes.{Fits}
use Rattle.server.proofs.Crew.{one_taken}
use Rattle.server.specs.Threads.{IsWorker}
use Rattle.server.proofs.threads.start_workers.Goals as goal

pub passes-preserved : goal.passes-preserved
passes-preserved g c =
    let was = c.passes.invariant in let cut = c.in-Some.ensures in let put = c.push_reserved.ensures in
    let server = arc_value c.args.server.now in record {
      fits = (All-pop (Fits server.node) c.passes.passes.items c.pop.new.self.items (Some c.in-Some.pass) cut.items was.fits).0;
      room = omega (arith, cut.cases, put.len, put.capacity, was.room);
      back = omega (arith, cut.cases, put.len, was.back);
      capacity = omega (arith, cut.capacity, was.capacity);
      started =
          one_taken (IsWorker server) c.args.passes.now.items c.passes.passes.items c.pop.new.self.items c.in-Some.pass c.in_ok-worker.worker c.passes.workers.items
          c.push_reserved.new.self.items cut.items put.items c.in_ok-worker.ensures.started was.started;
    }
