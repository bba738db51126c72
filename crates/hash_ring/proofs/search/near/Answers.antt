use Rattle.std.proofs.Common.{not, ltb, sym, ap, ◌∙◌, arith}
use Rattle.std.specs.List.{position}
use Rattle.hash_ring.proofs.Bounds.{found_low, found_high}
use Rattle.hash_ring.proofs.search.near.Goals as goal
use Rattle.hash_ring.proofs.search.near.Goals.{else-steps-eq0-via-then-steps-eq0+else-place-gt0, else-steps-eq0-via-else-steps-eq0}

pub returns-clause-low : goal.returns-clause-low
returns-clause-low c =
    let at = c.in_ok-next.ensures.lookup.0 in
    let first = c.in_ok-steps.ensures ∙ ap (position (λ p. not (ltb p.hash c.args.hash))) at.2 in
    found_low c.args.points.now c.requires c.args.hash c.args.place c.min-end.result c.in_ok-steps.steps at.0 at.1 (sym first)
    (λ none. elim c.else-steps-eq0.branch [
      | else-steps-eq0-via-then-steps-eq0+else-place-gt0 w ↦ omega (arith, w.if-place-gt0.false)
      | else-steps-eq0-via-else-steps-eq0 w ↦ absurd (w.if-steps-eq0.false none)
    ])

pub returns-clause-high : goal.returns-clause-high
returns-clause-high c =
    let at = c.in_ok-next.ensures.lookup.0 in
    let first = c.in_ok-steps.ensures ∙ ap (position (λ p. not (ltb p.hash c.args.hash))) at.2 in
    found_high c.args.points.now c.requires c.args.hash c.args.place c.min-end.result c.in_ok-steps.steps at.0 at.1 (sym first)
