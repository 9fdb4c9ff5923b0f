use Rattle.std.proofs.Common.{◌≡◌, ℕ, true, false, Option, Some, slice_set, refl, sym, ap, subst, ◌∙◌}
use Rattle.std.specs.List.{sum_by}
use Rattle.vk_memory.specs.declared.memories.Object.{Object}
use Rattle.vk_heap.specs.Region.{splice, piece}
use Rattle.vk_memory.specs.MemoryState.{MemoryState, IsLive, counted, region_of, size_on, with_region}
use Rattle.vk_memory.proofs.MemoryStateLemmas.{copied_to, summed_again}
use Rattle.vk_memory.proofs.memories.Memories.copy.Goals as goal

pub returns : goal.returns
returns c =
    let s : MemoryState = record { sizes = record { heap0 = c.self.inside.heap0.size; heap1 = c.self.inside.heap1.size }; objects = c.self.inside.objects.items } in
    let live : (number : ℕ) → IsLive c.args.self.now number → IsLive s number = λ number. subst (λ (m : MemoryState). IsLive m number) (sym c.self.view_is) in
    copied_to s c.args.from c.args.to c.in-Some-Some.source c.in-Some-Some.object c.take-taken.new.self c.index_mut.result.now c.index.result.now
    (live c.args.from c.requires.source.0) (live c.args.to c.requires.destination.0) c.if-from-to.false
    (sym c.in-Some-Some.is-1 ∙ c.take-taken.ensures.value ∙ c.index_mut.ensures.value) (sym c.in-Some-Some.is-0 ∙ c.index.ensures) c.args.at c.args.to_at c.args.len c.copy_between.new.into c.copy_between.ensures
    ∙ ap (λ (m : MemoryState). with_region m c.args.to (splice (region_of m c.args.to) c.args.to_at (piece (region_of m c.args.from) c.args.at c.args.len))) c.self.view_is

pub invariant_of-self : goal.invariant_of-self
invariant_of-self c =
    let s : MemoryState = record { sizes = record { heap0 = c.self.inside.heap0.size; heap1 = c.self.inside.heap1.size }; objects = c.self.inside.objects.items } in
    let live : (number : ℕ) → IsLive c.args.self.now number → IsLive s number = λ number. subst (λ (m : MemoryState). IsLive m number) (sym c.self.view_is) in
    let again : (f : Option Object → ℕ) → f (Some (record c.in-Some-Some.object { region = c.copy_between.new.into })) ≡ f (Some c.in-Some-Some.object) → sum_by f (slice_set (slice_set c.self.inside.objects.items c.args.to c.take-taken.new.self) c.args.to (Some (record c.in-Some-Some.object { region = c.copy_between.new.into }))) ≡ sum_by f c.self.inside.objects.items
    = λ f same. summed_again s c.args.from c.args.to c.in-Some-Some.source c.in-Some-Some.object c.take-taken.new.self c.index_mut.result.now c.index.result.now
    (live c.args.from c.requires.source.0) (live c.args.to c.requires.destination.0) c.if-from-to.false
    (sym c.in-Some-Some.is-1 ∙ c.take-taken.ensures.value ∙ c.index_mut.ensures.value) (sym c.in-Some-Some.is-0 ∙ c.index.ensures) f c.copy_between.new.into same in
    let kept = c.self.invariant in
    (kept.0 ∙ sym (again (size_on true) refl), kept.1 ∙ sym (again (size_on false) refl), kept.2 ∙ sym (again counted refl))
