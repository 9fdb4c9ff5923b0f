use Rattle.std.proofs.Common.{◌≡◌, ◌+◌, ◌<◌, ℕ, suc, length, set, arith, ap, ◌∙◌}
use Rattle.std.specs.List.{insert}
use Rattle.vk_ranges.specs.Inner.Chunks.{AreChunks, IsChunkOf, joined}
use Rattle.vk_ranges.proofs.ChunkLemmas.{with_more, halved_joined, halved_chunks, halved_either}
use Rattle.vk_ranges.proofs.chunks.split.Goals as goal

pub returns-clause-chunks : goal.returns-clause-chunks
returns-clause-chunks g c =
    let chunks = c.reserve.new.self.items in
    let at = c.args.at in
    let kept = c.halve.new.self in
    let more = c.in_ok-more.more in
    let one : at + 1 ≡ suc at = omega arith in
    let made : c.insert.new.self.items ≡ with_more chunks at kept more = c.in-Ok.ensures.items ∙ ap (λ (n : ℕ). insert (set chunks at kept) n more) one in
    let within : at < length chunks = rw (c.in_ok-reserve.ensures.items) c.requires.within in
    let tiled : AreChunks 0 chunks = rw (c.in_ok-reserve.ensures.items) c.requires.chunks in
    rw made (halved_chunks 0 at chunks c.index_mut.result.now kept more tiled within c.index_mut.ensures.value c.in_ok-more.ensures.ok)

pub returns-clause-runs : goal.returns-clause-runs
returns-clause-runs g c =
    let chunks = c.reserve.new.self.items in
    let at = c.args.at in
    let kept = c.halve.new.self in
    let more = c.in_ok-more.more in
    let one : at + 1 ≡ suc at = omega arith in
    let made : c.insert.new.self.items ≡ with_more chunks at kept more = c.in-Ok.ensures.items ∙ ap (λ (n : ℕ). insert (set chunks at kept) n more) one in
    let within : at < length chunks = rw (c.in_ok-reserve.ensures.items) c.requires.within in
    ap joined made ∙ halved_joined at chunks c.index_mut.result.now kept more within c.index_mut.ensures.value c.in_ok-more.ensures.ok ∙ ap joined c.in_ok-reserve.ensures.items

pub returns-clause-either : goal.returns-clause-either
returns-clause-either g c = λ end is.
    let chunks = c.reserve.new.self.items in
    let at = c.args.at in
    let kept = c.halve.new.self in
    let more = c.in_ok-more.more in
    let one : at + 1 ≡ suc at = omega arith in
    let made : c.insert.new.self.items ≡ with_more chunks at kept more = c.in-Ok.ensures.items ∙ ap (λ (n : ℕ). insert (set chunks at kept) n more) one in
    let first : IsChunkOf end at chunks = rw (c.in_ok-reserve.ensures.items) is in
    rw (made, one) (halved_either end at chunks c.index_mut.result.now kept more first c.index_mut.ensures.value c.in_ok-more.ensures.ok)
