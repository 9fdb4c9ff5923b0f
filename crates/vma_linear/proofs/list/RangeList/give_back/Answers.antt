use Rattle.std.proofs.Common.{refl, arith, ap, ◌∙◌, List, false}
use Rattle.vk_model.specs.Memory.Suballocation.{Taken}
use Rattle.vk_model.specs.Memory.LinearBlocks.{others}
use Rattle.vma_linear.specs.Inner.Slots.{Ranges}
use Rattle.vma_linear.proofs.Searching.{gives_back}
use Rattle.vma_linear.proofs.list.RangeList.give_back.Goals as goal

pub overflow_sub-self : goal.overflow_sub-self
overflow_sub-self c =
    let found = c.in-Some.ensures.found c.index_mut.result.now in
    let back = gives_back _ _ _ _ _ c.index_mut.result.now (record c.index_mut.result.now { live = false }) c.deref.ensures.value c.self.invariant.ordered c.in-Some.ensures.within found.0 found.1 refl in
    omega (arith, back.count, c.self.invariant.count)

pub tidy-self-inside-requires-clause-count : goal.tidy-self-inside-requires-clause-count
tidy-self-inside-requires-clause-count c =
    let found = c.in-Some.ensures.found c.index_mut.result.now in
    let back = gives_back _ _ _ _ _ c.index_mut.result.now (record c.index_mut.result.now { live = false }) c.deref.ensures.value c.self.invariant.ordered c.in-Some.ensures.within found.0 found.1 refl in
    omega (arith, back.count, c.self.invariant.count)

pub returns : goal.returns
returns c =
    let found = c.in-Some.ensures.found c.index_mut.result.now in
    let back = gives_back _ _ _ _ _ c.index_mut.result.now (record c.index_mut.result.now { live = false }) c.deref.ensures.value c.self.invariant.ordered c.in-Some.ensures.within found.0 found.1 refl in
    let with_taken : List Taken → Ranges = λ ts. record { direction = c.self.inside.direction; taken = ts } in
    ap with_taken (c.tidy-self-inside.ensures.same ∙ back.taken) ∙ ap (λ (v : Ranges). record v { taken = others c.args.start v.taken }) c.self.view_is
