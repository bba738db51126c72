use Rattle.std.proofs.Common.{◌+◌, ap, sym, drop, slice_index_or, below_more}
use Rattle.change_core.specs.declared.changes.Change.{Change}
use Rattle.node_core.specs.Node.{Seen}
use Rattle.cluster_core.specs.Clusters.{NoneHas, address_in}
use Rattle.cluster_core.proofs.Crews.{apart_at, tail_free, tail_taken, twins_at}
use Rattle.cluster_core.proofs.clusters.has_duplicate_address.Goals as goal

pub returns-then-is_taken-clause-twins : goal.returns-then-is_taken-clause-twins
returns-then-is_taken-clause-twins g c =
    λ yes apart.
    twins_at c.args.nodes.now c.own-address.result.address c.loop-i.i c.index-nodes-i.result c.loop-i-test.true c.index-nodes-i.is
    (sym (ap (λ (x : Change). x.address) c.own-address.ensures))
    (tail_taken c.args.nodes.now (c.loop-i.i + 1) c.own-address.result.address (c.is_taken.ensures.taken c.if-is_taken.true)) apart

pub loop-i-preserved : goal.loop-i-preserved
loop-i-preserved g c =
    λ k d below.
    below_more (λ j. (e : Seen _) → NoneHas (drop (j + 1) c.args.nodes.now) (address_in (slice_index_or c.args.nodes.now j e))) c.loop-i.i
    (λ j low e. c.loop-i.invariant j e low)
    (λ e.
    apart_at c.args.nodes.now c.own-address.result.address c.loop-i.i c.index-nodes-i.result e c.loop-i-test.true c.index-nodes-i.is
    (sym (ap (λ (x : Change). x.address) c.own-address.ensures))
    (tail_free c.args.nodes.now (c.loop-i.i + 1) c.own-address.result.address (c.is_taken.ensures.free c.if-is_taken.false)))
    k below d
