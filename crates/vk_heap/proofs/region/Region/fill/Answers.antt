use Rattle.std.proofs.Common.{List, ap, arith, drop, length, sym, take, ℕ, ◌*◌, ◌++◌, ◌+◌, ◌-◌, ◌∙◌, ◌≡◌}
use Rattle.vk_heap.specs.Region.{splice, repeated}
use Rattle.vk_heap.proofs.FreshLemmas.{length_all, put_view}
use Rattle.std.specs.Int.{to_le_bytes, w32}
use Rattle.std.specs.Vec.{with_items}
use Rattle.vk_heap.specs.Region.{with_fresh}
use Rattle.vk_heap.proofs.RegionLemmas.{length-repeated}
use Rattle.vk_heap.proofs.region.Region.fill.Goals as goal

pub returns : goal.returns
returns c =
    let i = c.self.inside in
    let size : length c.args.self.now ≡ i.size = ap (λ (l : List ℕ). length l) (sym c.self.view_is) ∙ length_all i.bytes.items i.size c.self.invariant.within in
    let inside = c.requires in
    let words = repeated c.args.words (to_le_bytes w32 c.args.word) in
    let many : length words ≡ 4 * c.args.words = length-repeated c.args.words (to_le_bytes w32 c.args.word) ∙ omega arith in
    ap (λ (l : List ℕ). with_fresh (with_items c.reach.new.bytes (take c.args.at c.as_mut_slice-bytes.result.now ++ (l ++ drop (c.args.at + 4 * c.args.words - c.args.at) (drop c.args.at c.as_mut_slice-bytes.result.now)))).items i.size) c.fill_words.ensures
    ∙ put_view c.reach.new.bytes i.bytes.items (c.args.at + 4 * c.args.words) i.size c.self.invariant.within (omega (arith, inside, size)) c.as_mut_slice-bytes.result.now c.as_mut_slice-bytes.ensures.value c.reach.ensures.items words c.args.at (c.args.at + 4 * c.args.words - c.args.at) (omega (arith, many)) (omega (arith, many))
    ∙ ap (λ (l : List ℕ). splice l c.args.at words) c.self.view_is
