use Rattle.std.proofs.Common.{◌≡◌, ◌+◌, length, arith}
use Rattle.std.proofs.lemmas.Slice.{between_to_end}
use Rattle.vk_ranges.specs.Runs.{after}
use Rattle.vk_ranges.proofs.ChunkLemmas.{chunk_rising, after_is}
use Rattle.vk_ranges.proofs.chunks.runs_after.Goals as goal

pub after-here-requires : goal.after-here-requires
after-here-requires g c = chunk_rising 0 c.chunk_near-at.result c.args.chunks.now c.index-chunks-at-2.result c.requires c.chunk_near-at.ensures.within c.index-chunks-at-2.is

pub returns : goal.returns
returns g c =
    let chunks = c.args.chunks.now in
    let at = c.chunk_near-at.result in
    let chunk = c.index-chunks-at-2.result in
    let here : c.after-here.result.now ≡ after c.args.index chunk.runs.items = c.after-here.ensures in
    rw (here, between_to_end chunks (at + 1) (length chunks) (omega arith)) (after_is 0 c.args.index at chunks chunk c.requires c.chunk_near-at.ensures.first c.index-chunks-at-2.is)
