use Rattle.std.proofs.Common.{ltb, rules}
use Rattle.std.proofs.lemmas.List.Sorted.{IsPartitionPoint-from_clause, IsPartitionedBy-ltb}
use Rattle.hash_ring.proofs.Edits.{hashes_rise, low_part, high_part}
use Rattle.hash_ring.proofs.search.first_at.Goals as goal

pub returns-in-None-clause-low : goal.returns-in-None-clause-low
returns-in-None-clause-low c =
    let points = c.args.points.now in
    let parted = IsPartitionedBy-ltb (λ p. p.hash) points c.args.hash (hashes_rise points c.requires) in
    let parts = IsPartitionPoint-from_clause (λ p. ltb p.hash c.args.hash) _ _ c.partition_point.ensures.partitioned parted (λ a r q k. search rules) in
    low_part c.args.hash points _ parts

pub returns-in-None-clause-high : goal.returns-in-None-clause-high
returns-in-None-clause-high c =
    let points = c.args.points.now in
    let parted = IsPartitionedBy-ltb (λ p. p.hash) points c.args.hash (hashes_rise points c.requires) in
    let parts = IsPartitionPoint-from_clause (λ p. ltb p.hash c.args.hash) _ _ c.partition_point.ensures.partitioned parted (λ a r q k. search rules) in
    high_part c.args.hash points _ parts
