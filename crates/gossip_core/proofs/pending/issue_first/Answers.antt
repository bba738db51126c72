use Rattle.std.proofs.Common.{◌≡◌, ◌∙◌, ◌++◌, ◌∷◌, [], refl, ap, sym, true, false, map, length, arith, inl, inr}
use Rattle.std.proofs.lemmas.Bool.{false≢true}
use Rattle.std.proofs.lemmas.Result.{err_from_is_err_and}
use Rattle.std.proofs.lemmas.Map.Entries.{length-values_of, length-keys_of}
use Rattle.indexmap.specs.IndexMap.{keys, values}
use Rattle.indexmap.proofs.CallerLemmas.{keys-with_value_at}
use Rattle.gossip_core.specs.Pending.{subject, may_go_to, once_more, issued}
use Rattle.gossip_core.proofs.PendingLemmas.{counted_along, OnePerAddress-from_keys, IsIssuing-none, IsIssuing-countable, IsIssuing-yes, IsIssuing-no, IsIssuing-all, subjects-counted_along, values_of-set_value_at, some_asked}
use Rattle.gossip_core.proofs.IssueLaws.{counted_along-is}
use Rattle.gossip_core.proofs.pending.issue_first.Goals as goal
use Rattle.gossip_core.proofs.pending.issue_first.Goals.{then-ne, else-ne, else-changes-test, then-changes-test+then-len-at_most}

pub returns-in_err-changes-clause-issued : goal.returns-in_err-changes-clause-issued
returns-in_err-changes-clause-issued c =
    let p = err_from_is_err_and c.from_residual.result c.from_residual.ensures.1 in
    rw p.1 tt

pub returns-in_err-changes-clause-counted : goal.returns-in_err-changes-clause-counted
returns-in_err-changes-clause-counted c =
    let p = err_from_is_err_and c.from_residual.result c.from_residual.ensures.1 in
    rw p.1 tt

pub returns-in_err-changes-clause-out_of_memory : goal.returns-in_err-changes-clause-out_of_memory
returns-in_err-changes-clause-out_of_memory c =
    let p = err_from_is_err_and c.from_residual.result c.from_residual.ensures.1 in
    rw p.1 (some_asked c.min.result c.args.at_most c.len.result c.min.ensures (λ none. false≢true (c.in_err-changes.ensures.succeeds none))).0

pub returns-in_err-changes-clause-some : goal.returns-in_err-changes-clause-some
returns-in_err-changes-clause-some c =
    let p = err_from_is_err_and c.from_residual.result c.from_residual.ensures.1 in
    let some = (some_asked c.min.result c.args.at_most c.len.result c.min.ensures (λ none. false≢true (c.in_err-changes.ensures.succeeds none))).1 in
    rw p.1 (omega (arith, some, c.len.ensures.len, length-values_of c.args.pending.now.entries))

pub changes-init : goal.changes-init
changes-init c = record {
  keys = refl;
  roomy = omega (arith, c.in_ok-changes.ensures.capacity, c.min.ensures, c.len.ensures.len, length-values_of c.args.pending.now.entries);
  issuing = rw c.in_ok-changes.ensures.items (IsIssuing-none c.args.target c.args.at_most (values c.args.pending.now) c.requires.countable);
}

pub push_reserved-requires : goal.push_reserved-requires
push_reserved-requires c =
    let inv = c.changes.invariant in
    omega (arith, inv.roomy, inv.issuing.within, inv.issuing.behind, c.changes-test.true, c.len-index-end.ensures.len, length-values_of c.args.pending.now.entries, c.if-len-at_most.false, c.len-in-changes.ensures, c.changes.changes.ok)

pub overflow_add-index_mut : goal.overflow_add-index_mut
overflow_add-index_mut c =
    let now = values c.changes.pending in
    omega (arith, IsIssuing-countable c.args.target c.args.at_most (values c.args.pending.now) c.changes.changes.items c.changes.index now c.index_mut.result.now c.changes.invariant.issuing c.index_mut.ensures.value)

pub changes-preserved : goal.changes-preserved
changes-preserved c =
    let m = c.changes.pending in
    let i = c.changes.index in
    let inv = c.changes.invariant in
    elim c.if-ne.branch [
      | then-ne w ↦
          let p = w.index_mut.result.now in
          let same : c.index.result.now ≡ p = cc in
          let may : may_go_to c.args.target p ≡ true = cc in
          let step = IsIssuing-yes c.args.target c.args.at_most (values c.args.pending.now) c.changes.changes.items i (values m) p inv.issuing w.index_mut.ensures.value (λ e. c.if-len-at_most.false (c.len-in-changes.ensures ∙ c.changes.changes.ok.0 ∙ e)) may in
          let written : values c.if-ne.pending ≡ _ = ap values w.pending-is ∙ values_of-set_value_at m.entries i (once_more p) in
          let answered = w.push_reserved.ensures.items ∙ (λ j. c.changes.changes.items ++ (same j).sourced ∷ []) in
          rw w.changes-is record {
            keys = ap keys w.pending-is ∙ keys-with_value_at m i (once_more p) ∙ inv.keys;
            roomy = omega (arith, inv.roomy, w.push_reserved.ensures.capacity);
            issuing = rw (written, answered) step;
          }
      | else-ne w ↦
          let p = c.index.result.now in
          let may : may_go_to c.args.target p ≡ false = cc in
          let step = IsIssuing-no c.args.target c.args.at_most (values c.args.pending.now) c.changes.changes.items i (values m) p inv.issuing c.index.ensures may in
          rw (w.pending-is, w.changes-is) record { keys = inv.keys; roomy = inv.roomy; issuing = step }
    ]

-- what the loop leaves: the list is counted_along, and the issued are answered
left : (c : goal.Left-changes) → (values c.changes.pending ≡ counted_along c.args.target c.args.at_most (values c.args.pending.now)) × (c.changes.changes.items ≡ issued c.args.target c.args.at_most (values c.args.pending.now))
left c =
    let now = values c.changes.pending in
    let given = c.changes.changes.items in
    let same_len : length (keys c.changes.pending) ≡ length (keys c.args.pending.now) = ap length c.changes.invariant.keys in
    IsIssuing-all c.args.target c.args.at_most (values c.args.pending.now) given c.changes.index now c.changes.invariant.issuing
    (elim c.changes-test.branch [
      | else-changes-test w ↦ inl (omega (arith, same_len, w.changes-test.false, length-values_of c.changes.pending.entries, length-keys_of c.changes.pending.entries, length-keys_of c.args.pending.now.entries, c.len-index-end.ensures.len))
      | then-changes-test+then-len-at_most w ↦ inr cc
    ])

pub returns-clause-issued : goal.returns-clause-issued
returns-clause-issued c = (left c).1

pub returns-clause-counted : goal.returns-clause-counted
returns-clause-counted c =
    let old = c.args.pending.now in
    (left c).0 ∙ counted_along-is c.args.target c.args.at_most (values old) (OnePerAddress-from_keys (keys old) (values old) c.requires.by_address c.len.ensures.unique)

pub returns-clause-by_address : goal.returns-clause-by_address
returns-clause-by_address c =
    ap (map subject) (left c).0 ∙ subjects-counted_along c.args.target c.args.at_most (values c.args.pending.now) ∙ c.requires.by_address ∙ sym c.changes.invariant.keys
