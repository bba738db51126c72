-- The order in which changes are sorted. At one address it is precedence, the weaker change first.
use Rattle.std.specs.declared.cmp.Ordering.{Ordering}
use Rattle.std.specs.Ordering.{nat_cmp, ordering_then}
use Rattle.change_core.specs.declared.changes.Change.{Change}
use Rattle.change_core.specs.declared.changes.Sourced.{Sourced}
use Rattle.change_core.specs.Status.{rank}

-- by address, then incarnation, then rank, then weight
abbrev pub change_cmp : Change → Change → Ordering
change_cmp c d = ordering_then (nat_cmp c.address d.address) (ordering_then (nat_cmp c.incarnation d.incarnation) (ordering_then (nat_cmp (rank c.status) (rank d.status)) (nat_cmp c.weight d.weight)))

-- by change, then source, then the source's incarnation
abbrev pub sourced_cmp : Sourced → Sourced → Ordering
sourced_cmp s t = ordering_then (change_cmp s.change t.change) (ordering_then (nat_cmp s.source t.source) (nat_cmp s.source_incarnation t.source_incarnation))
