use Rattle.std.proofs.Common.{◌≡◌, ◌≤◌, ◌<◌, ◌-◌, get_or, ltb-true, arith, ap, inr}
use Rattle.vk_ranges.specs.declared.chunk.Chunk.{Chunk}
use Rattle.vk_ranges.proofs.ChunkLemmas.{chunk_after}
use Rattle.vk_ranges.proofs.chunks.is_chunk_of.Goals as goal

pub returns-else-at-eq0 : goal.returns-else-at-eq0
returns-else-at-eq0 g c = λ holds.
    let chunks = c.args.chunks.now in
    let at = c.args.at in
    let chunk = c.index-chunks-at.result in
    let front = c.index-chunks-at-else-at-eq0.result in
    let chunk_is : chunk.last ≡ (get_or chunks at chunk).last = ap (λ (x : Chunk g.row.T.Denot). x.last) c.index-chunks-at.is in
    let front_is : front.last ≡ (get_or chunks (at - 1) front).last = ap (λ (x : Chunk g.row.T.Denot). x.last) c.index-chunks-at-else-at-eq0.is in
    let less = ltb-true _ _ holds in
    let here : c.args.index ≤ chunk.last = omega arith in
    let before : front.last < c.args.index = omega arith in
    chunk_after 0 c.args.index at chunks chunk front c.requires.chunks c.requires.within c.index-chunks-at.is here (inr (c.index-chunks-at-else-at-eq0.is, before))
