use Rattle.std.proofs.Common.{List, ap, arith, drop, length, sym, take, ℕ, ◌++◌, ◌+◌, ◌-◌, ◌∙◌, ◌≡◌}
use Rattle.std.specs.Vec.{with_items}
use Rattle.vk_heap.specs.Region.{splice, with_fresh}
use Rattle.vk_heap.proofs.FreshLemmas.{length_all, put_view}
use Rattle.vk_heap.proofs.region.Region.write.Goals as goal

pub returns : goal.returns
returns c =
    let i = c.self.inside in
    let size : length c.args.self.now ≡ i.size = ap (λ (l : List ℕ). length l) (sym c.self.view_is) ∙ length_all i.bytes.items i.size c.self.invariant.within in
    let inside = c.requires in
    ap (λ (l : List ℕ). with_fresh (with_items c.reach.new.bytes (take c.args.at c.as_mut_slice.result.now ++ (l ++ drop (c.args.at + length c.args.bytes.now - c.args.at) (drop c.args.at c.as_mut_slice.result.now)))).items i.size) c.copy_from_slice.ensures.after
    ∙ put_view c.reach.new.bytes i.bytes.items (c.args.at + length c.args.bytes.now) i.size c.self.invariant.within (omega (arith, inside, size)) c.as_mut_slice.result.now c.as_mut_slice.ensures.value c.reach.ensures.items c.args.bytes.now c.args.at (c.args.at + length c.args.bytes.now - c.args.at) (omega arith) (omega arith)
    ∙ ap (λ (l : List ℕ). splice l c.args.at c.args.bytes.now) c.self.view_is
