use Rattle.std.proofs.Common.{List, ap, arith, length, sym, ℕ, ◌+◌, ◌∙◌, ◌≡◌}
use Rattle.vk_heap.specs.Region.{splice, piece}
use Rattle.vk_heap.proofs.FreshLemmas.{length_all, moved_view}
use Rattle.vk_heap.proofs.region.Region.copy_within.Goals as goal

pub returns : goal.returns
returns c =
    let i = c.self.inside in
    let size : length c.args.self.now ≡ i.size = ap (λ (l : List ℕ). length l) (sym c.self.view_is) ∙ length_all i.bytes.items i.size c.self.invariant.within in
    let from = c.requires.from in let into = c.requires.room in let high = c.max.ensures in
    moved_view c.reach.new.bytes i.bytes.items (c.max.result + c.args.len) i.size c.self.invariant.within (omega (arith, from, into, high, size)) c.as_mut_slice.result.now c.as_mut_slice.ensures.value c.reach.ensures.items c.move_bytes.new.bytes c.args.at c.args.to c.args.len c.move_bytes.ensures (omega (arith, high)) (omega (arith, high))
    ∙ ap (λ (l : List ℕ). splice l c.args.to (piece l c.args.at c.args.len)) c.self.view_is
