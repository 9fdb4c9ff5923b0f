use Rattle.std.proofs.Common.{◌≡◌, ◌+◌, ◌<◌, length, arith, ap, ◌∙◌}
use Rattle.std.proofs.lemmas.List.{nil_from_length}
use Rattle.vk_ranges.specs.Inner.Chunks.{joined}
use Rattle.vk_ranges.proofs.ChunkLemmas.{emptied_joined, emptied_chunks}
use Rattle.vk_ranges.proofs.chunks.drop_empty.Goals as goal

pub returns-then-at-len-clause-chunks : goal.returns-then-at-len-clause-chunks
returns-then-at-len-clause-chunks g c =
    let lt : c.args.at + 1 < length c.args.chunks.now.items = omega arith in
    rw (c.remove.ensures.items) (emptied_chunks 0 c.args.at c.args.chunks.now.items c.index.result.now c.requires.chunks lt)

pub returns-then-at-len-clause-runs : goal.returns-then-at-len-clause-runs
returns-then-at-len-clause-runs g c =
    let none : length c.index.result.now.runs.items ≡ 0 = grind (arith, c.is_empty.ensures, c.if-not-is_empty.ensures) in
    ap joined c.remove.ensures.items
    ∙ emptied_joined c.args.at c.args.chunks.now.items c.index.result.now c.requires.within c.index.ensures (nil_from_length c.index.result.now.runs.items none)
