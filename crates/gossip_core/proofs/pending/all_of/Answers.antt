use Rattle.std.proofs.Common.{◌≡◌, ◌≤◌, length, take, ◌∙◌, ap, arith, map, ◌++◌, ◌∷◌, []}
use Rattle.std.proofs.lemmas.Bool.{false≢true}
use Rattle.std.proofs.lemmas.List.{length-map, length-take, take_all}
use Rattle.std.proofs.lemmas.Map.Entries.{length-values_of}
use Rattle.std.proofs.lemmas.Result.{err_from_is_err_and}
use Rattle.indexmap.specs.IndexMap.{values}
use Rattle.gossip_core.proofs.PendingLemmas.{sourced-take_more}
use Rattle.gossip_core.proofs.pending.all_of.Goals as goal

pub returns-in_err-changes-clause-out_of_memory : goal.returns-in_err-changes-clause-out_of_memory
returns-in_err-changes-clause-out_of_memory c =
    let p = err_from_is_err_and c.from_residual.result c.from_residual.ensures.1 in
    let some : c.len.result ≡ 0 → ⊥ = λ none. false≢true (c.in_err-changes.ensures.succeeds none) in
    rw p.1 (omega (arith, some, c.len.ensures.len, length-values_of c.args.pending.now.entries))

pub changes-init : goal.changes-init
changes-init c = record {
  roomy = omega (arith, c.in_ok-changes.ensures.capacity, c.len.ensures.len, length-values_of c.args.pending.now.entries);
  so_far = c.in_ok-changes.ensures.items;
}

pub push_reserved-requires : goal.push_reserved-requires
push_reserved-requires c =
    let inv = c.changes.invariant in
    let xs = values c.args.pending.now in
    let long = ap length inv.so_far ∙ length-map (take c.changes.index xs) (λ p. p.sourced) ∙ length-take c.changes.index xs in
    omega (arith, inv.roomy, long, c.changes.changes.ok, c.changes-test.true, c.len-index-end.ensures.len, length-values_of c.args.pending.now.entries)

pub changes-preserved : goal.changes-preserved
changes-preserved c =
    let inv = c.changes.invariant in
    record {
      roomy = omega (arith, inv.roomy, c.push_reserved.ensures.capacity);
      so_far = c.push_reserved.ensures.items ∙ ap (λ l. l ++ c.index.result.now.sourced ∷ []) inv.so_far ∙ sourced-take_more (values c.args.pending.now) c.changes.index c.index.result.now c.index.ensures;
    }

pub returns-clause-items : goal.returns-clause-items
returns-clause-items c =
    let all : length (values c.args.pending.now) ≤ c.changes.index
    = omega (arith, c.changes-test.false, c.len-index-end.ensures.len, length-values_of c.args.pending.now.entries) in
    c.changes.invariant.so_far ∙ ap (map (λ p. p.sourced)) (take_all c.changes.index (values c.args.pending.now) all)
