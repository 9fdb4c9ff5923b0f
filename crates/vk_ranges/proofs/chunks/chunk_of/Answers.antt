use Rattle.std.proofs.Common.{◌<◌, ◌^◌, length, ltb, ltb-true, ltb-false, arith, rules}
use Rattle.std.proofs.lemmas.List.Sorted.{IsPartitionPoint-from_clause, IsPartitionedBy-ltb}
use Rattle.vk_ranges.specs.declared.chunk.Chunk.{Chunk}
use Rattle.vk_ranges.proofs.ChunkLemmas.{chunk_is, chunk_within, chunks_sorted}
use Rattle.vk_ranges.proofs.chunks.chunk_of.Goals as goal

pub returns-clause-within : goal.returns-clause-within
returns-clause-within g c =
    let chunks = c.args.chunks.now in
    let at = c.partition_point.result in
    let parted = IsPartitionedBy-ltb (λ (chunk : Chunk g.row.T.Denot). chunk.last) chunks c.args.index (chunks_sorted 0 chunks c.requires) in
    let point = IsPartitionPoint-from_clause (λ (chunk : Chunk g.row.T.Denot). ltb chunk.last c.args.index) _ _ c.partition_point.ensures.partitioned parted (λ a r q k. search rules) in
    let bound : c.args.index < 2 ^ 32 = c.ranges.index.fits in
    chunk_within 0 c.args.index at chunks c.requires (omega arith) bound c.partition_point.ensures.bound (λ k d lt. ltb-true _ _ (point.0 k d (omega arith) lt))

pub returns-clause-first : goal.returns-clause-first
returns-clause-first g c =
    let chunks = c.args.chunks.now in
    let at = c.partition_point.result in
    let within : at < length chunks = returns-clause-within g c in
    let parted = IsPartitionedBy-ltb (λ (chunk : Chunk g.row.T.Denot). chunk.last) chunks c.args.index (chunks_sorted 0 chunks c.requires) in
    let point = IsPartitionPoint-from_clause (λ (chunk : Chunk g.row.T.Denot). ltb chunk.last c.args.index) _ _ c.partition_point.ensures.partitioned parted (λ a r q k. search rules) in
    chunk_is c.args.index at chunks within (λ k d lt. ltb-true _ _ (point.0 k d (omega arith) lt)) (λ d. ltb-false _ _ (point.1 at d (omega arith) within))
