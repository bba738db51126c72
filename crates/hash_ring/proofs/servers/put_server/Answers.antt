use Rattle.std.proofs.Common.{sym, ap, subst, ◌∙◌}
use Rattle.change_core.specs.Ascending.{put}
use Rattle.hash_ring.specs.Servers.{AreServers, server_cmp}
use Rattle.hash_ring.proofs.PointOrder.{server_exact}
use Rattle.hash_ring.proofs.Weights.{AreServers-put, AreServers-without, in_without}
use Rattle.hash_ring.proofs.servers.put_server.Goals as goal

pub place-requires-clause-exact : goal.place-requires-clause-exact
place-requires-clause-exact c = server_exact

pub place-requires-clause-ascends : goal.place-requires-clause-ascends
place-requires-clause-ascends c = (subst AreServers (sym c.take_server.ensures.servers) (AreServers-without c.args.server.now.address c.args.servers.now.items c.requires.servers)).ascends

pub returns-clause-servers : goal.returns-clause-servers
returns-clause-servers c =
    let server = c.args.server.now in
    subst AreServers (sym (c.in_ok-place.ensures.placed ∙ ap (put server_cmp server) c.take_server.ensures.servers))
    (AreServers-put server _ (λ t h. (in_without server.address t c.args.servers.now.items h).1) c.requires.weighed (AreServers-without server.address c.args.servers.now.items c.requires.servers))
