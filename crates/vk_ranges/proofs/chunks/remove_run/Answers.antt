use Rattle.std.proofs.Common.{◌<◌, List, length, arith, subst, ◌∙◌}
use Rattle.std.specs.Ordering.{nat_cmp}
use Rattle.std.specs.Map.{remove_entry}
use Rattle.std.specs.BTreeMap.{is_at}
use Rattle.vk_ranges.specs.declared.chunk.Chunk.{Chunk}
use Rattle.vk_ranges.specs.Inner.Chunks.{IsChunkOf}
use Rattle.vk_ranges.proofs.RisingLemmas.{local_remove}
use Rattle.vk_ranges.proofs.ChunkLemmas.{chunk_rising, changed_joined, changed_chunks}
use Rattle.vk_ranges.proofs.chunks.remove_run.Goals as goal

pub remove-requires : goal.remove-requires
remove-requires g c =
    let chunks = c.args.chunks.now.items in
    let within : c.chunk_at-at.result < length chunks = omega (arith, c.chunk_at-at.ensures.within) in
    chunk_rising 0 c.chunk_at-at.result chunks c.index_mut.result.now c.requires within c.index_mut.ensures.value

pub drop_empty-requires-clause-chunks : goal.drop_empty-requires-clause-chunks
drop_empty-requires-clause-chunks g c =
    let chunks = c.args.chunks.now.items in
    let first = subst (λ (xs : List (Chunk g.row.T.Denot)). IsChunkOf c.args.end c.chunk_at-at.result xs) c.deref.ensures.value c.chunk_at-at.ensures.first in
    changed_chunks c.args.end c.args.end (λ runs. remove_entry (is_at (nat_cmp c.args.end)) runs) (local_remove c.args.end) 0 c.chunk_at-at.result chunks c.index_mut.result.now c.remove.new.self
    c.requires (omega arith) first first c.index_mut.ensures.value c.remove.ensures.last c.remove.ensures.runs

pub returns-clause-runs : goal.returns-clause-runs
returns-clause-runs g c =
    let chunks = c.args.chunks.now.items in
    let first = subst (λ (xs : List (Chunk g.row.T.Denot)). IsChunkOf c.args.end c.chunk_at-at.result xs) c.deref.ensures.value c.chunk_at-at.ensures.first in
    c.drop_empty.ensures.runs
    ∙ changed_joined c.args.end c.args.end (λ runs. remove_entry (is_at (nat_cmp c.args.end)) runs) (local_remove c.args.end) 0 c.chunk_at-at.result chunks c.index_mut.result.now c.remove.new.self
    c.requires first first c.index_mut.ensures.value c.remove.ensures.runs
