use Rattle.std.proofs.Common.{◌≡◌, true, false, refl, ap, sym, ◌∙◌}
use Rattle.std.proofs.lemmas.Bool.{ne_eqb}
use Rattle.vk_memory.specs.MemoryState.{MemoryState, on_first, sizes_on}
use Rattle.vk_memory.proofs.MemoryStateLemmas.{more_on, none_on, more_live}
use Rattle.vk_memory.proofs.memories.Memories.allocate.Goals as goal

pub invariant_of-self-then-memory_type-eq0 : goal.invariant_of-self-then-memory_type-eq0
invariant_of-self-then-memory_type-eq0 c =
    let was : c.heap-heap.result.used ≡ sizes_on (on_first c.args.memory_type) c.self.inside.objects.items = c.heap-heap.ensures.used ∙ ap (λ (s : MemoryState). sizes_on (on_first c.args.memory_type) s.objects) (sym c.self.view_is) in (
      more_on _ _ _ _ _ c.in_ok-push.ensures.items true _ _ (rw c.if-memory_type-eq0.true refl) was c.in_ok-take.ensures.ok.0,
      none_on _ _ _ _ _ c.in_ok-push.ensures.items false _ (rw c.if-memory_type-eq0.true refl) c.self.invariant.1,
      more_live _ _ _ _ _ c.in_ok-push.ensures.items _ c.self.invariant.2,
    )

pub invariant_of-self-else-memory_type-eq0 : goal.invariant_of-self-else-memory_type-eq0
invariant_of-self-else-memory_type-eq0 c =
    let was : c.heap-heap.result.used ≡ sizes_on (on_first c.args.memory_type) c.self.inside.objects.items = c.heap-heap.ensures.used ∙ ap (λ (s : MemoryState). sizes_on (on_first c.args.memory_type) s.objects) (sym c.self.view_is) in (
      none_on _ _ _ _ _ c.in_ok-push.ensures.items true _ (ne_eqb _ _ c.if-memory_type-eq0.false) c.self.invariant.0,
      more_on _ _ _ _ _ c.in_ok-push.ensures.items false _ _ (ne_eqb _ _ c.if-memory_type-eq0.false) was c.in_ok-take.ensures.ok.0,
      more_live _ _ _ _ _ c.in_ok-push.ensures.items _ c.self.invariant.2,
    )
