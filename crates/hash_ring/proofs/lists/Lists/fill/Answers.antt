use Rattle.std.proofs.Common.{ap, arith, ◌∙◌, refl, vec_capacity}
use Rattle.std.proofs.lemmas.Result.{on_ok_weaker}
use Rattle.hash_ring.specs.Points.{points}
use Rattle.hash_ring.proofs.Kept.{kept_settled}
use Rattle.hash_ring.proofs.lists.Lists.fill.Goals as goal

pub returns-clause-kept : goal.returns-clause-kept
returns-clause-kept g c =
    let hash_of = g.H.PointHash.hash_of c.args.hash in
    let made = c.in_ok-fill_all.ensures.made ∙ ap (points hash_of c.args.replicas) c.deref.ensures.value in
    on_ok_weaker c.widen.result (λ _. kept_settled hash_of c.args.replicas c.list_servers.new.list.items c.fill_all.new.list.items c.fill_all.new.list.items c.list_servers.new.late.items (vec_capacity c.list_servers.new.late) (vec_capacity c.fill_all.new.list)
    (record {
      replicas_fit = c.requires.replicas;
      servers_fit = c.in_ok-list_servers.ensures.servers;
      points_are = made;
      small = c.in_ok-fill_all.ensures.small;
      fits = c.in_ok-list_servers.ensures.fits;
    })
    refl c.in_ok-list_servers.ensures.none_late (omega (arith, c.fill_all.new.list.ok.0, c.fill_all.new.list.ok.1))) c.widen.ensures
