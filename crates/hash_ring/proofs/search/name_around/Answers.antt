use Rattle.hash_ring.proofs.Named.{named_around, IsSorted-none}
use Rattle.hash_ring.proofs.search.name_around.Goals as goal

pub returns-then-count-le-FEW-clause-named : goal.returns-then-count-le-FEW-clause-named
returns-then-count-le-FEW-clause-named c =
    named_around c.args.count c.args.start c.args.points.now _ _ _ _ _ c.requires.empty c.split_at.ensures.front c.split_at.ensures.back c.name_servers.ensures.named c.name_servers-then-count-le-FEW.ensures.named

pub returns-clause-named : goal.returns-clause-named
returns-clause-named c =
    named_around c.args.count c.args.start c.args.points.now _ _ _ _ _ c.requires.empty c.split_at.ensures.front c.split_at.ensures.back c.distinct_from_sorted.ensures.named c.distinct_from_sorted-2.ensures.named

pub distinct_from_sorted-requires-clause-sorted : goal.distinct_from_sorted-requires-clause-sorted
distinct_from_sorted-requires-clause-sorted c = IsSorted-none _ _ c.requires.empty c.in_ok-sorted.ensures.items
