use Rattle.std.proofs.Common.{◌+◌, ◌∙◌, ◌++◌, ◌∷◌, [], ap, arith, get_or, map, refl, sym}
use Rattle.std.proofs.lemmas.List.{map_more, take_all}
use Rattle.std.proofs.lemmas.Result.{err_from_is_err_and}
use Rattle.member_core.specs.Membership.{said_by}
use Rattle.member_core.proofs.memberships.said_by.Goals as goal

pub returns-in_err-said-clause-refusal : goal.returns-in_err-said-clause-refusal
returns-in_err-said-clause-refusal c =
    let p = err_from_is_err_and c.from_residual.result c.from_residual.ensures.1 in
    rw (p.1, p.2) refl

pub loop-change-init : goal.loop-change-init
loop-change-init c = (c.in_ok-said.ensures.items, c.in_ok-said.ensures.len, c.in_ok-said.ensures.capacity)

pub push_reserved-requires : goal.push_reserved-requires
push_reserved-requires c = omega (arith, c.loop-change.invariant.1, c.loop-change.invariant.2, c.loop-change-test.true)

pub loop-change-preserved : goal.loop-change-preserved
loop-change-preserved c =
    let own = c.args.own.now in
    let changes = c.args.changes.now in
    let i = c.loop-change.change-index in
    let item = c.change-item.result in
    let inv = c.loop-change.invariant in (
      c.push_reserved.ensures.items ∙ ap (λ m. c.loop-change.said.items ++ said_by own m ∷ []) c.change-item.is ∙ ap (λ l. l ++ said_by own (get_or changes i item) ∷ []) inv.0
          ∙ sym (map_more (said_by own) changes i item c.loop-change-test.true),
      c.push_reserved.ensures.len ∙ ap (λ n. n + 1) inv.1,
      omega (arith, inv.2, c.push_reserved.ensures.capacity),
    )

pub returns-clause-list : goal.returns-clause-list
returns-clause-list c = c.loop-change.invariant.0 ∙ ap (map (said_by c.args.own.now)) (take_all c.loop-change.change-index c.args.changes.now c.loop-change-test.false)
