use Rattle.std.proofs.Common.{ℕ, leb, leb-true, leb-false, arith, rules}
use Rattle.std.proofs.lemmas.List.Sorted.{IsPartitionPoint-from_clause, IsPartitionedBy-leb}
use Rattle.vk_ranges.proofs.RisingLemmas.{rest_is, rising_sorted}
use Rattle.vk_ranges.proofs.chunk.count_until.Goals as goal

pub returns-clause-rest : goal.returns-clause-rest
returns-clause-rest g c =
    let end = λ (run : ℕ × g.row.T.Denot). run.0 in
    let parted = IsPartitionedBy-leb end c.args.runs.now c.args.index (rising_sorted c.requires.0 c.requires.1 c.args.runs.now c.requires.2) in
    let point = IsPartitionPoint-from_clause (λ (run : ℕ × g.row.T.Denot). leb run.0 c.args.index) _ _ c.partition_point.ensures.partitioned parted (λ a r q k. search rules) in
    rest_is c.args.index c.args.runs.now c.partition_point.result c.partition_point.ensures.bound (λ k d lt. leb-true _ _ (point.0 k d (omega arith) lt)) (λ k d from to. leb-false _ _ (point.1 k d from to))
