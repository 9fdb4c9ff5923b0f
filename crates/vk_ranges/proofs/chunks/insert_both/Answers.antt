use Rattle.std.proofs.Common.{◌<◌, List, length, arith, subst}
use Rattle.vk_ranges.specs.declared.chunk.Chunk.{Chunk}
use Rattle.vk_ranges.specs.Inner.Chunks.{IsChunkOf}
use Rattle.vk_ranges.proofs.ChunkLemmas.{chunk_rising, inserted_both, same_joined, same_chunks}
use Rattle.vk_ranges.proofs.chunks.insert_both.Goals as goal

pub gap-requires : goal.gap-requires
gap-requires g c =
    let chunks = c.args.chunks.now.items in
    let within : c.chunk_at-at.result < length chunks = omega (arith, c.chunk_at-at.ensures.within) in
    chunk_rising 0 c.chunk_at-at.result chunks c.index.result.now c.requires.chunks within c.index.ensures

pub returns-in-Ok-clause-chunks : goal.returns-in-Ok-clause-chunks
returns-in-Ok-clause-chunks g c =
    let at = c.chunk_at-at.result in
    let first = subst (λ (xs : List (Chunk g.row.T.Denot)). IsChunkOf c.args.low.0 at xs) c.deref.ensures.value c.chunk_at-at.ensures.first in
    (inserted_both c.args.low c.args.high at c.args.chunks.now.items c.index.result.now c.index_mut.result.now c.insert_both.new.self c.requires.chunks first c.in-Some.ensures.rising c.index.ensures
    c.in-Some.ensures.within c.index_mut.ensures.value c.in-Ok.ensures.last c.in-Ok.ensures.ok).0

pub returns-in-Ok-clause-ok : goal.returns-in-Ok-clause-ok
returns-in-Ok-clause-ok g c =
    let at = c.chunk_at-at.result in
    let first = subst (λ (xs : List (Chunk g.row.T.Denot)). IsChunkOf c.args.low.0 at xs) c.deref.ensures.value c.chunk_at-at.ensures.first in
    (inserted_both c.args.low c.args.high at c.args.chunks.now.items c.index.result.now c.index_mut.result.now c.insert_both.new.self c.requires.chunks first c.in-Some.ensures.rising c.index.ensures
    c.in-Some.ensures.within c.index_mut.ensures.value c.in-Ok.ensures.last c.in-Ok.ensures.ok).1

pub returns-in-Err-clause-chunks : goal.returns-in-Err-clause-chunks
returns-in-Err-clause-chunks g c =
    let chunks = c.args.chunks.now.items in
    let within : c.chunk_at-at.result < length chunks = omega (arith, c.chunk_at-at.ensures.within) in
    same_chunks 0 c.chunk_at-at.result chunks c.index_mut.result.now c.insert_both.new.self c.requires.chunks within c.index_mut.ensures.value c.in-Err.ensures.last c.in-Err.ensures.err

pub returns-in-Err-clause-err : goal.returns-in-Err-clause-err
returns-in-Err-clause-err g c =
    let chunks = c.args.chunks.now.items in
    let within : c.chunk_at-at.result < length chunks = omega (arith, c.chunk_at-at.ensures.within) in
    same_joined c.chunk_at-at.result chunks c.index_mut.result.now c.insert_both.new.self within c.index_mut.ensures.value c.in-Err.ensures.err
