use Rattle.std.proofs.Common.{ℕ, sym, Some, subst, ◌∙◌}
use Rattle.vk_memory.specs.MemoryState.{MemoryState, IsLive, IsCopied, with_object}
use Rattle.vk_memory.proofs.MemoryStateLemmas.{copied_by}
use Rattle.vk_memory.proofs.memories.Memories.copy_by.Goals as goal

pub returns : goal.returns
returns g c =
    let s : MemoryState = record { sizes = record { heap0 = c.self.inside.heap0.size; heap1 = c.self.inside.heap1.size }; objects = c.self.inside.objects.items } in
    let live : (number : ℕ) → IsLive c.args.self.now number → IsLive s number = λ number. subst (λ (m : MemoryState). IsLive m number) (sym c.self.view_is) in
    let new : MemoryState = with_object (with_object s c.args.to c.take-taken.new.self) c.args.to (Some (record c.in-Some-Some.object { region = c.copy_between.new.destination })) in
    subst (λ (m : MemoryState). IsCopied (g.C.RegionCopy.has_copied c.args.copy.now) m new c.args.from c.args.to) c.self.view_is
    (copied_by s c.args.from c.args.to c.in-Some-Some.source c.in-Some-Some.object c.take-taken.new.self c.index_mut.result.now c.index.result.now
    (live c.args.from c.requires.source) (live c.args.to c.requires.destination) c.if-from-to.false
    (sym c.in-Some-Some.is-1 ∙ c.take-taken.ensures.value ∙ c.index_mut.ensures.value) (sym c.in-Some-Some.is-0 ∙ c.index.ensures)
    (g.C.RegionCopy.has_copied c.args.copy.now) c.copy_between.new.destination c.copy_between.ensures)
