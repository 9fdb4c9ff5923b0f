use Rattle.std.proofs.Common.{ℕ, ltb, ltb-true, ltb-false, arith, rules}
use Rattle.std.proofs.lemmas.List.Sorted.{IsPartitionPoint-from_clause, IsPartitionedBy-ltb}
use Rattle.vk_ranges.proofs.RisingLemmas.{place_is, rising_sorted}
use Rattle.vk_ranges.proofs.chunk.count_before.Goals as goal

pub returns : goal.returns
returns g c =
    let end = λ (run : ℕ × g.row.T.Denot). run.0 in
    let parted = IsPartitionedBy-ltb end c.args.runs.now c.args.index (rising_sorted c.requires.0 c.requires.1 c.args.runs.now c.requires.2) in
    let point = IsPartitionPoint-from_clause (λ (run : ℕ × g.row.T.Denot). ltb run.0 c.args.index) _ _ c.partition_point.ensures.partitioned parted (λ a r q k. search rules) in
    place_is c.args.index c.args.runs.now c.partition_point.result c.partition_point.ensures.bound (λ k d lt. ltb-true _ _ (point.0 k d (omega arith) lt)) (λ k d from to. ltb-false _ _ (point.1 k d from to))
