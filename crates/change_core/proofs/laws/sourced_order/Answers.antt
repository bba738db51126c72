use Rattle.std.proofs.Common.{◌≡◌, refl, ◌∙◌, ap}
use Rattle.std.specs.Ordering.{nat_cmp, ordering_then}
use Rattle.change_core.specs.declared.changes.Change.{Change}
use Rattle.change_core.specs.declared.statuses.Status.{Status}
use Rattle.change_core.specs.declared.statuses.Status.TheVariants.{Alive, Suspect, Faulty, Leave, Tombstone}
use Rattle.change_core.specs.contracts.statuses.StatusOrd.TheImpl as status_ord
use Rattle.change_core.specs.contracts.changes.ChangeOrd.TheImpl as change_ord
use Rattle.change_core.specs.Order.{change_cmp}
use Rattle.change_core.specs.Status.{rank}
use Rattle.change_core.proofs.laws.sourced_order.Goals as goal

-- statuses are ordered by rank, since the variants stand in that order
status_cmp-rank : (s t : Status) → (status_ord.cmp-value).it s t ≡ nat_cmp (rank s) (rank t)
status_cmp-rank Alive Alive = refl
status_cmp-rank Alive Suspect = refl
status_cmp-rank Alive Faulty = refl
status_cmp-rank Alive Leave = refl
status_cmp-rank Alive Tombstone = refl
status_cmp-rank Suspect Alive = refl
status_cmp-rank Suspect Suspect = refl
status_cmp-rank Suspect Faulty = refl
status_cmp-rank Suspect Leave = refl
status_cmp-rank Suspect Tombstone = refl
status_cmp-rank Faulty Alive = refl
status_cmp-rank Faulty Suspect = refl
status_cmp-rank Faulty Faulty = refl
status_cmp-rank Faulty Leave = refl
status_cmp-rank Faulty Tombstone = refl
status_cmp-rank Leave Alive = refl
status_cmp-rank Leave Suspect = refl
status_cmp-rank Leave Faulty = refl
status_cmp-rank Leave Leave = refl
status_cmp-rank Leave Tombstone = refl
status_cmp-rank Tombstone Alive = refl
status_cmp-rank Tombstone Suspect = refl
status_cmp-rank Tombstone Faulty = refl
status_cmp-rank Tombstone Leave = refl
status_cmp-rank Tombstone Tombstone = refl

-- what `cmp` of two changes answers
cmp-change_cmp : (c d : Change) → (change_ord.cmp-value).it c d ≡ change_cmp c d
cmp-change_cmp c d =
    ap (λ o. ordering_then (nat_cmp c.address d.address) (ordering_then (nat_cmp c.incarnation d.incarnation) (ordering_then o (nat_cmp c.weight d.weight)))) (status_cmp-rank c.status d.status)

pub returns : goal.returns
returns c =
    let one = c.args.one.now in
    let other = c.args.other.now in
    c.cmp.ensures ∙ ap (λ o. ordering_then o (ordering_then (nat_cmp one.source other.source) (nat_cmp one.source_incarnation other.source_incarnation))) (cmp-change_cmp one.change other.change)
