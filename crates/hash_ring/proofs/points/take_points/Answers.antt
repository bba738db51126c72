use Rattle.std.proofs.Common.{◌≡◌, ◌≤◌, ◌+◌, ◌-◌, ◌∙◌, Bool, List, take, drop, length, ap, subst, arith, length-drop}
use Rattle.std.specs.List.{position_or_len}
use Rattle.std.proofs.lemmas.List.{take_rest}
use Rattle.hash_ring.specs.declared.points.Point.{Point}
use Rattle.hash_ring.specs.Servers.{is_same}
use Rattle.hash_ring.proofs.Runs.{run_step}
use Rattle.hash_ring.proofs.points.take_points.Goals as goal

pub loop-at-preserved : goal.loop-at-preserved
loop-at-preserved c =
    let at = c.loop-at.at in
    let kept = c.loop-at.kept in
    let n = c.run_of_others.result in
    let ps = c.loop-at.points.items in
    let slice = c.deref.result.now in
    let mine : Point → Bool = λ p. is_same p.server c.args.server in
    let rest : take (length slice - at) (drop at slice) ≡ drop at ps = take_rest slice at ∙ ap (drop at) c.deref.ensures.value in
    let first : n ≡ position_or_len mine (drop at ps) = c.run_of_others.ensures.run ∙ ap (position_or_len mine) rest in
    let fits : n ≤ length (drop at ps) = subst (λ (qs : List Point). n ≤ length qs) rest c.run_of_others.ensures.bound in
    let low : at ≤ length ps = omega (arith, c.loop-at-test.true, c.len.ensures, c.loop-at.points.ok.0) in
    let same : length c.copy_within.new.self.items ≡ length ps = omega (arith, c.copy_within.ensures.len, c.copy_within.new.self.ok.0, c.loop-at.points.ok.0) in
    record {
      whole = run_step c.args.server ps c.copy_within.new.self.items kept at n (at + n - at) first (omega arith) c.loop-at.invariant.kept low fits c.copy_within.ensures.items ∙ c.loop-at.invariant.whole;
      kept = omega (arith, c.loop-at.invariant.kept);
      at = omega (arith, fits, length-drop at ps, low, same);
      capacity = c.copy_within.ensures.capacity ∙ c.loop-at.invariant.capacity;
    }
