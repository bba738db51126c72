use Rattle.std.proofs.Common.{[]}
use Rattle.hash_ring.specs.Servers.{with_each}
use Rattle.hash_ring.proofs.Kept.{kept_is}
use Rattle.hash_ring.proofs.ring.Ring.with_servers.Goals as goal

pub returns-clause-made : goal.returns-clause-made
returns-clause-made g c =
    let n = c.fill.new.self in
    let e = c.in_ok-fill.ensures in
    kept_is c.args.hash (g.H.PointHash.hash_of c.args.hash) c.args.replicas n.servers n.points n.late (with_each c.args.servers.now []) e.kept e.servers
