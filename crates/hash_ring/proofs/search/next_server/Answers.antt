use Rattle.std.proofs.Common.{◌≡◌, None, Some, rules, arith}
use Rattle.std.specs.List.{slice_get}
use Rattle.std.specs.Option.{option_or}
use Rattle.hash_ring.proofs.Next.{first_near, none_near, least_first, least_more, on_none}
use Rattle.hash_ring.proofs.search.next_server.Goals as goal

pub returns-in_err-first-clause-empty : goal.returns-in_err-first-clause-empty
returns-in_err-first-clause-empty c =
    let start = c.first_at-start.ensures in
    let none : option_or c.first_around.result (slice_get c.args.late.now 0) ≡ None = search rules in
    on_none c.from_residual.result (none_near c.args.hash (omega (arith, c.ranges.hash.fits)) c.args.points.now c.requires.ascends c.requires.small c.first_at-start.result start.low start.high c.args.late.now c.first_around.result none c.first_around.ensures)

pub loop-point-init : goal.loop-point-init
loop-point-init c =
    let start = c.first_at-start.ensures in
    let some : option_or c.first_around.result (slice_get c.args.late.now 0) ≡ Some c.in_ok-first.first = search rules in
    let near = first_near c.args.hash (omega (arith, c.ranges.hash.fits)) c.args.points.now c.requires.ascends c.requires.small c.first_at-start.result start.low start.high c.args.late.now c.in_ok-first.first c.first_around.result some c.first_around.ensures in
    record { least = least_first c.args.hash c.args.points.now c.args.late.now c.in_ok-first.first c.clockwise_from-nearest.result near.0 near.1 c.clockwise_from-nearest.ensures }

pub loop-point-preserved : goal.loop-point-preserved
loop-point-preserved c =
    let at = c.loop-point.point-index in
    let late = c.args.late.now in
    record { least = least_more c.args.hash c.args.points.now c.args.points.now late at c.point-item.result c.loop-point.nearest c.clockwise_from.result c.min-nearest.result c.loop-point.invariant.least c.loop-point-test.true c.point-item.is c.clockwise_from.ensures c.min-nearest.ensures }
