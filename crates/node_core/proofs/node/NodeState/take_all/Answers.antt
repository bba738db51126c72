use Rattle.std.proofs.Common.{◌≡◌, ◌≤◌, subst, sym, ℕ, ◌+◌, arith}
use Rattle.change_core.specs.Members.{members}
use Rattle.change_core.proofs.Members.{members-IsMemberList}
use Rattle.node_core.specs.Node.{Seen}
use Rattle.node_core.specs.Taking.{refuted_by}
use Rattle.node_core.proofs.Batch.{HasTaken, HasTaken-none, HasTaken-more, StopsForRoom-stop, TakesFirst-stop}
use Rattle.node_core.proofs.node.NodeState.take_all.Goals as goal

pub loop-place-init : goal.loop-place-init
loop-place-init g c =
    HasTaken-none c.args.self.now.node c.args.changes.now
    (subst (λ (s : Seen g.row.H.Denot). members s.node.members ≡ s.node.members) c.self.view_is (members-IsMemberList _ c.self.invariant.kept.one_each))

pub returns-in-Err-clause-settled : goal.returns-in-Err-clause-settled
returns-in-Err-clause-settled g c =
    subst (λ (s : Seen g.row.H.Denot). members s.node.members ≡ s.node.members) c.self.view_is (members-IsMemberList _ c.self.invariant.kept.one_each)

pub returns-clause-settled : goal.returns-clause-settled
returns-clause-settled g c =
    subst (λ (s : Seen g.row.H.Denot). members s.node.members ≡ s.node.members) c.self.view_is (members-IsMemberList _ c.self.invariant.kept.one_each)

pub returns-in-Err-clause-first : goal.returns-in-Err-clause-first
returns-in-Err-clause-first g c =
    TakesFirst-stop c.args.self.now.node c.args.changes.now c.loop-place.place c.loop-place.applied c.loop-place.refuted c.loop-place.self.node c.take_one.new.self.node c.index-changes-place.result c.in-Err.cause
    (omega (arith, c.loop-place-test.true)) c.index-changes-place.is c.loop-place.invariant c.in-Err.ensures.err

pub returns-in-Err-clause-out_of_memory : goal.returns-in-Err-clause-out_of_memory
returns-in-Err-clause-out_of_memory g c =
    StopsForRoom-stop c.args.self.now.node c.args.changes.now c.loop-place.place c.loop-place.self.node c.take_one.new.self.node c.index-changes-place.result c.in-Err.cause
    (omega (arith, c.loop-place-test.true)) c.index-changes-place.is c.in-Err.ensures.err c.in-Err.ensures.out_of_memory

pub loop-place-preserved : goal.loop-place-preserved
loop-place-preserved g c =
    let so = HasTaken-more c.args.self.now.node c.args.changes.now c.loop-place.place c.loop-place.applied c.loop-place.refuted c.loop-place.self.node c.take_one.new.self.node c.index-changes-place.result c.in-Ok.effect
    (omega (arith, c.loop-place-test.true)) c.index-changes-place.is
    (subst (λ (n : ℕ). n ≤ 1) c.altered-applied.ensures.value c.altered-applied.ensures.within)
    (subst (λ (n : ℕ). n ≤ 1) c.refuted-refuted.ensures.value c.refuted-refuted.ensures.within)
    c.loop-place.invariant c.in-Ok.ensures.ok in
    subst (λ (n : ℕ). HasTaken c.args.self.now.node c.args.changes.now (c.loop-place.place + 1) (c.loop-place.applied + c.altered-applied.result) (c.loop-place.refuted + n) c.take_one.new.self.node) (sym c.refuted-refuted.ensures.value)
    (subst (λ (n : ℕ). HasTaken c.args.self.now.node c.args.changes.now (c.loop-place.place + 1) (c.loop-place.applied + n) (c.loop-place.refuted + refuted_by c.in-Ok.effect) c.take_one.new.self.node) (sym c.altered-applied.ensures.value) so)
