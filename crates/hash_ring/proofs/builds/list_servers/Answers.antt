use Rattle.std.proofs.Common.{ap, ◌∙◌, [], arith}
use Rattle.std.proofs.lemmas.List.{take_all}
use Rattle.hash_ring.specs.declared.servers.Server.{Server}
use Rattle.hash_ring.specs.Servers.{with_each, with_server}
use Rattle.hash_ring.proofs.Weights.{positive_factor}
use Rattle.hash_ring.proofs.InTurn.{each_more, fits_put}
use Rattle.hash_ring.proofs.builds.list_servers.Goals as goal

pub put_server-requires-clause-weighed : goal.put_server-requires-clause-weighed
put_server-requires-clause-weighed c =
    positive_factor c.args.replicas c.server-item.result.weight (omega (arith, c.point_count-count.ensures.value, c.point_count-count.ensures.range.0))

pub loop-server-preserved : goal.loop-server-preserved
loop-server-preserved c =
    let server : Server = c.server-item.result in
    record {
      listed = c.in_ok-put_server.ensures.put ∙ ap (with_server server) c.loop-server.invariant.listed
          ∙ each_more c.args.servers.now [] c.loop-server.server-index server (omega arith) c.server-item.is;
      servers = c.in_ok-put_server.ensures.servers;
      nothing = c.reserve.ensures.items ∙ c.loop-server.invariant.nothing;
      fits = fits_put c.args.replicas c.point_count-count.result server c.loop-server.list.items _ _ _ c.point_count-count.ensures.value (omega (arith, c.in_ok-reserve.ensures.ok)) c.reserve.ensures.capacity c.in_ok-put_server.ensures.put c.loop-server.invariant.fits;
    }

pub returns-clause-listed : goal.returns-clause-listed
returns-clause-listed c =
    c.loop-server.invariant.listed ∙ ap (λ ss. with_each ss []) (take_all c.loop-server.server-index c.args.servers.now (omega (arith, c.loop-server-test.false)))
