use Rattle.std.proofs.Common.{◌≤◌, refl, arith}
use Rattle.change_core.specs.Numbers.{greatest_number}
use Rattle.cli_core.proofs.Folding.{ends, faults, goes}
use Rattle.cli_core.proofs.members.read_members.Goals as goal

pub lines-preserved : goal.lines-preserved
lines-preserved g c =
    let test = c.in-Ok-true.field-0-test in
    let few : c.lines.number ≤ greatest_number = (rw test at c.in-Ok-true.ensures.counted) refl in
    let fits = (rw test at c.in-Ok-true.ensures.fits) refl in
    record {
      counted = omega arith;
      max = c.in-Ok-true.ensures.max;
      heard = goes _ _ _ _ _ _ c.lines.invariant.heard (rw test at c.in-Ok-true.ensures.heard) fits;
    }

pub returns-in-Ok-false-clause-ok : goal.returns-in-Ok-false-clause-ok
returns-in-Ok-false-clause-ok g c = ends _ _ (g.R.Read.remaining c.hear.new.reader) _ _ _ c.lines.invariant.heard (rw c.in-Ok-false.field-0-test at c.in-Ok-false.ensures.heard) c.lines.invariant.counted

pub returns-in-Err-clause-err : goal.returns-in-Err-clause-err
returns-in-Err-clause-err g c = faults _ _ (g.R.Read.remaining c.hear.new.reader) _ _ c.hear.new.table.members _ c.lines.invariant.heard c.in-Err.ensures.heard c.in-Err.ensures.own
