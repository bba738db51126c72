use Rattle.std.proofs.Common.{◌∙◌, ap, []}
use Rattle.hash_ring.specs.Servers.{with_each}
use Rattle.cli_core.proofs.RingServers.{each-servers_of}
use Rattle.cli_core.proofs.owners.ring_of.Goals as goal

pub returns-clause-servers : goal.returns-clause-servers
returns-clause-servers g c =
    λ m. ap (λ r. r.servers) c.in-Ok.ensures.made
    ∙ ap (λ ss. with_each ss []) (c.as_slice.ensures.value ∙ c.in_ok-servers.ensures.servers m)
    ∙ each-servers_of c.args.members.now m
