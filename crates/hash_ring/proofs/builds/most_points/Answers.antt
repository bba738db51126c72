use Rattle.std.proofs.Common.{subst, sym, arith}
use Rattle.std.proofs.lemmas.List.{take_all}
use Rattle.change_core.specs.Ascending.{In}
use Rattle.hash_ring.specs.declared.servers.Server.{Server}
use Rattle.hash_ring.proofs.InTurn.{most_more}
use Rattle.hash_ring.proofs.builds.most_points.Goals as goal

pub loop-server-preserved : goal.loop-server-preserved
loop-server-preserved c =
    let server : Server = c.server-item.result in
    record {
      most = most_more c.args.replicas c.point_count.result c.args.servers.now c.loop-server.server-index server c.loop-server.most c.max-most.result (omega arith) c.server-item.is c.point_count.ensures.value (omega (arith, c.max-most.ensures)) (omega (arith, c.max-most.ensures)) c.loop-server.invariant.most;
    }

pub returns : goal.returns
returns c = λ s h. c.loop-server.invariant.most s (subst (In s) (sym (take_all c.loop-server.server-index c.args.servers.now (omega (arith, c.loop-server-test.false)))) h)
