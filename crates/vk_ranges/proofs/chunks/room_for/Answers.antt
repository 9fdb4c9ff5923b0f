use Rattle.std.proofs.Common.{◌≡◌, ◌+◌, suc, List, inl, inr, arith, subst}
use Rattle.vk_ranges.specs.declared.chunk.Chunk.{Chunk}
use Rattle.vk_ranges.specs.Inner.Chunks.{IsChunkOf}
use Rattle.vk_ranges.proofs.ChunkLemmas.{chunk_to, chunk_past}
use Rattle.vk_ranges.proofs.chunks.room_for.Goals as goal

pub returns-then-end-index-clause-first : goal.returns-then-end-index-clause-first
returns-then-end-index-clause-first g c =
    let at = c.chunk_at-at.result in
    let chunks = c.split.new.chunks.items in
    let was = subst (λ (xs : List (Chunk g.row.T.Denot)). IsChunkOf c.args.end at xs) c.deref.ensures.value c.chunk_at-at.ensures.first in
    elim (c.in_ok-split.ensures.either c.args.end was) [
      | inl here ↦ here
      | inr after ↦
          let one : at + 1 ≡ suc at = omega arith in
          let past = chunk_past c.args.end at chunks c.index-2.result.now (subst (λ n. IsChunkOf c.args.end n chunks) one after) c.index-2.ensures in
          let to = c.if-end-index.true in
          absurd (omega arith)
    ]

pub returns-clause-first : goal.returns-clause-first
returns-clause-first g c =
    let at = c.chunk_at-at.result in
    let chunks = c.split.new.chunks.items in
    let was = subst (λ (xs : List (Chunk g.row.T.Denot)). IsChunkOf c.args.end at xs) c.deref.ensures.value c.chunk_at-at.ensures.first in
    elim (c.in_ok-split.ensures.either c.args.end was) [
      | inl here ↦ let to = chunk_to c.args.end at chunks c.index-2.result.now here c.index-2.ensures in let past = c.if-end-index.false in absurd (omega arith)
      | inr after ↦ after
    ]
