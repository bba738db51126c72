use Rattle.std.proofs.Common.{◌+◌, arith}
use Rattle.locked_node.proofs.Sharing.{shares, some_shared}
use Rattle.locked_node.proofs.node.LockedNode.share.Goals as goal

pub unreachable-requires : goal.unreachable-requires
unreachable-requires g c = some_shared c.args.workers c.in-Ok.passes.items c.in-Ok.ensures.passes.1 (omega (arith, c.in_default-pop.ensures.cases.0, c.in-Ok.passes.ok.0))

pub returns : goal.returns
returns g c =
    let shared = shares c.in-Ok.locked _ (c.args.workers + 1) c.in-Ok.passes.items c.pop.new.self.items c.pop.result c.in-Some.pass
    c.in-Ok.ensures.passes.0 c.in-Ok.ensures.passes.1 c.in-Ok.ensures.node.1 c.pop.ensures.items c.in-Some.is in
    record {
      node = (c.in-Ok.ensures.node.2, c.in-Ok.ensures.node.1);
      fits = shared.fits;
      count = omega (arith, shared.count);
      all = shared.all;
      fresh = shared.fresh;
    }
