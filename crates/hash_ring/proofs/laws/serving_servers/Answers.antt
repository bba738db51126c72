use Rattle.hash_ring.proofs.ServingServers.{addresses_of-servers_of, weight_of-servers_of}
use Rattle.hash_ring.proofs.laws.serving_servers.Goals as goal

pub returns-clause-addresses : goal.returns-clause-addresses
returns-clause-addresses c = addresses_of-servers_of

pub returns-clause-weights : goal.returns-clause-weights
returns-clause-weights c = weight_of-servers_of
