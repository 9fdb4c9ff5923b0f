use Rattle.std.proofs.Common.{List, ap, arith, drop, length, subst, sym, take, ℕ, ◌+◌, ◌-◌, ◌∙◌, ◌≡◌, ◌≤◌}
use Rattle.vk_heap.specs.Region.{splice, piece, with_fresh}
use Rattle.vk_heap.proofs.FreshLemmas.{length_all, put_view}
use Rattle.std.proofs.lemmas.Grind.{common_steps}
use Rattle.vk_heap.proofs.region.Region.copy_with_fresh.Goals as goal

pub returns : goal.returns
returns c =
    let i = c.into.inside in
    let s = c.self.inside in
    let size : length c.args.into.now ≡ i.size = ap (λ (l : List ℕ). length l) (sym c.into.view_is) ∙ length_all i.bytes.items i.size c.into.invariant.within in
    let whole : length c.args.self.now ≡ s.size = ap (λ (l : List ℕ). length l) (sym c.self.view_is) ∙ length_all s.bytes.items s.size c.self.invariant.within in
    let from = c.requires.from in let into = c.requires.room in
    let copied = c.copy_out.new.out in
    let room : c.args.to + c.args.len ≤ length c.as_mut_slice.result.now = grind (arith, common_steps) in
    let many : c.args.to + c.args.len - c.args.to ≡ length copied = grind (arith, common_steps) in
    let count : length (take (c.args.to + c.args.len - c.args.to) (drop c.args.to c.as_mut_slice.result.now)) ≡ c.args.len = grind (arith, common_steps) in
    let read = ap (λ (k : ℕ). piece (with_fresh c.as_slice.result.now s.size) c.args.at k) count ∙ ap (λ (l : List ℕ). piece (with_fresh l s.size) c.args.at c.args.len) c.as_slice.ensures.value ∙ ap (λ (l : List ℕ). piece l c.args.at c.args.len) c.self.view_is in
    put_view c.reach.new.bytes i.bytes.items (c.args.to + c.args.len) i.size c.into.invariant.within (omega (arith, into, size)) c.as_mut_slice.result.now c.as_mut_slice.ensures.value c.reach.ensures.items copied c.args.to (c.args.to + c.args.len - c.args.to) many (omega (arith, many))
    ∙ ap (λ (l : List ℕ). splice l c.args.to copied) c.into.view_is
    ∙ ap (λ (l : List ℕ). splice c.args.into.now c.args.to l) (c.copy_out.ensures s.size (omega (arith, from, whole, many)) (subst (λ (l : List ℕ). length l ≤ s.size) (sym c.as_slice.ensures.value) c.self.invariant.within) ∙ read)
