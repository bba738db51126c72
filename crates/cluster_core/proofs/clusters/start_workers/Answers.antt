use Rattle.std.proofs.Common.{◌≡◌, ◌∙◌, suc, ◌++◌, ap, arith, length, map, subst, sym, All}
use Rattle.std.proofs.lemmas.List.Elements.{All-nil, All-push, All-rest}
use Rattle.std.specs.Arc.{arc_value}
use Rattle.std.specs.Vec.Iter.{into_iter_items}
use Rattle.locked_node.specs.Passes.{Fits}
use Rattle.cluster_core.specs.Clusters.{given_to}
use Rattle.cluster_core.proofs.Crews.{moved_all, moves}
use Rattle.cluster_core.proofs.clusters.start_workers.Goals as goal

pub loop-pass-init : goal.loop-pass-init
loop-pass-init g c = record {
  length_is = c.into_iter-pass-iterator.ensures.into_iter_gives.1 ∙ c.args.passes.ok.0 ∙ sym (ap length c.into_iter-pass-iterator.ensures.into_iter_gives.0);
  fits = subst (λ xs. All (Fits (arc_value c.args.node.now)) xs) (sym c.into_iter-pass-iterator.ensures.into_iter_gives.0) c.requires;
  returned = subst (λ ws. All (λ (w : _). w.promise.node.value ≡ arc_value c.args.node.now) ws) (sym c.in_ok-workers.ensures.items) (All-nil (λ (w : _). w.promise.node.value ≡ arc_value c.args.node.now));
  given = ap (λ ws. map given_to ws ++ into_iter_items c.into_iter-pass-iterator.result) c.in_ok-workers.ensures.items ∙ c.into_iter-pass-iterator.ensures.into_iter_gives.0;
}

pub loop-pass-preserved : goal.loop-pass-preserved
loop-pass-preserved g c = record {
  length_is = (let cut : length (into_iter_items c.loop-pass.pass-iterator) ≡ suc (length (into_iter_items c.next.new.self)) = ap length c.in-Some.ensures.steps.0 in omega (arith, c.in-Some.ensures.steps.1));
  fits = All-rest (Fits (arc_value c.args.node.now)) c.in-Some.pass (into_iter_items c.next.new.self) (into_iter_items c.loop-pass.pass-iterator) c.in-Some.ensures.steps.0 c.loop-pass.invariant.fits;
  returned = subst (λ ws. All (λ (w : _). w.promise.node.value ≡ arc_value c.args.node.now) ws) (sym c.in_ok-push-in-Ok.ensures.items)
      (All-push (λ (w : _). w.promise.node.value ≡ arc_value c.args.node.now) c.loop-pass.workers.items c.in-Ok.worker c.loop-pass.invariant.returned c.in-Ok.ensures.spawned.0);
  given = moves given_to c.in-Some.pass (into_iter_items c.next.new.self) (into_iter_items c.loop-pass.pass-iterator) c.args.passes.items c.in-Ok.worker _ _
      c.in-Some.ensures.steps.0 c.in_ok-push-in-Ok.ensures.items c.in-Ok.ensures.spawned.1 c.loop-pass.invariant.given;
}

pub returns-clause-given : goal.returns-clause-given
returns-clause-given g c =
    moved_all given_to (into_iter_items c.loop-pass.pass-iterator) c.args.passes.items c.loop-pass.workers.items
    (sym c.loop-pass.invariant.length_is ∙ c.in-None.ensures.steps.0) c.loop-pass.invariant.given
