use Rattle.std.proofs.Common.{◌≡◌, true, false, List, [], ◌∷◌, ◌++◌, length, map, vec_len, vec_capacity, sym, ◌∙◌, ap, subst, arith}
use Rattle.std.specs.List.{filter}
use Rattle.std.specs.List.Sorted.{IsStrictlyIncreasing}
use Rattle.std.proofs.lemmas.Bool.{false≢true}
use Rattle.std.proofs.lemmas.List.{take_all}
use Rattle.std.proofs.lemmas.List.Sums.{length-filter}
use Rattle.change_core.specs.declared.changes.Change.{Change}
use Rattle.change_core.specs.Members.{address_of_change}
use Rattle.node_core.proofs.Pinging.{found_push, found_room, found_skip, is_pinged, pinged_count, pinged_list, pinged_rise}
use Rattle.node_core.proofs.pingable.list_pingable.Goals as goal
use Rattle.node_core.proofs.pingable.list_pingable.Goals.{then-is_pingable, else-is_pingable}

pub returns-in_default-clause-out_of_memory : goal.returns-in_default-clause-out_of_memory
returns-in_default-clause-out_of_memory c =
    λ e. let none : c.count_pingable-count.result ≡ 0
    = c.count_pingable-count.ensures ∙ sym (pinged_count c.args.members.now c.requires c.args.own) ∙ ap length e in
    absurd (false≢true (c.in_default.ensures.succeeds none))

pub loop-change-init : goal.loop-change-init
loop-change-init c =
    let count : c.count_pingable-count.result ≡ length (filter (is_pinged c.args.own) c.args.members.now)
    = c.count_pingable-count.ensures ∙ sym (length-filter (is_pinged c.args.own) c.args.members.now) in
    record { so_far = c.in-Ok.ensures.items; len_is = c.in-Ok.ensures.len; fits = omega (arith, count, c.in-Ok.ensures.capacity) }

pub push_reserved-requires : goal.push_reserved-requires
push_reserved-requires c =
    found_room c.args.own c.args.members.now c.loop-change.change-index c.change-item.result c.loop-change.found.items (vec_len c.loop-change.found) (vec_capacity c.loop-change.found)
    c.loop-change-test.true c.loop-change.invariant
    (subst (λ (m : Change). is_pinged c.args.own m ≡ true) c.change-item.is (sym c.is_pingable.ensures ∙ c.if-is_pingable.true))

pub loop-change-preserved : goal.loop-change-preserved
loop-change-preserved c =
    let own = c.args.own in
    let M = c.args.members.now in
    let i = c.loop-change.change-index in
    let d = c.change-item.result in
    let found = c.loop-change.found in
    elim c.if-is_pingable.branch [
      | then-is_pingable w ↦
          let more = found_push own M i d found.items (vec_len found) (vec_capacity found) c.loop-change-test.true c.loop-change.invariant
          (subst (λ (m : Change). is_pinged own m ≡ true) c.change-item.is (sym c.is_pingable.ensures ∙ w.if-is_pingable.true)) in
          rw w.found-is (record {
            so_far = w.push_reserved.ensures.items ∙ ap (λ (m : Change). found.items ++ m.address ∷ []) c.change-item.is ∙ more.so_far;
            len_is = w.push_reserved.ensures.len ∙ more.len_is;
            fits = omega (arith, more.fits, w.push_reserved.ensures.capacity);
          })
      | else-is_pingable w ↦
          rw w.found-is (found_skip own M i d found.items (vec_len found) (vec_capacity found) c.loop-change-test.true c.loop-change.invariant
          (subst (λ (m : Change). is_pinged own m ≡ false) c.change-item.is (sym c.is_pingable.ensures ∙ w.if-is_pingable.false)))
    ]

pub returns-clause-list : goal.returns-clause-list
returns-clause-list c =
    c.loop-change.invariant.so_far
    ∙ ap (λ (ms : List Change). map address_of_change (filter (is_pinged c.args.own) ms)) (take_all c.loop-change.change-index c.args.members.now c.loop-change-test.false)
    ∙ sym (pinged_list c.args.members.now c.requires c.args.own)

pub returns-clause-rising : goal.returns-clause-rising
returns-clause-rising c = subst IsStrictlyIncreasing (sym (returns-clause-list c)) (pinged_rise c.args.members.now c.args.own)
