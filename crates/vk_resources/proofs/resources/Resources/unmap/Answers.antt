use Rattle.std.proofs.Common.{◌≡◌, ◌∙◌, ◌-◌, ap, sym, subst, false, Option, Some, None, Bor}
use Rattle.std.specs.Option.{option_copied}
use Rattle.vk_memory.specs.MemoryState.{MemoryState, with_mapped}
use Rattle.vk_backing.proofs.Remapped.{unmap_leaves}
use Rattle.vk_resources.specs.declared.resources.Placed.{Placed}
use Rattle.vk_resources.specs.Held.{Held, IsConsistent, placed}
use Rattle.vk_resources.specs.Inner.Steps.{Remaps}
use Rattle.vk_resources.proofs.Remapping.{remapped_consistent, remapped, bound_none, bound_is}
use Rattle.vk_resources.proofs.resources.Resources.unmap.Goals as goal

pub returns-then-unmap : goal.returns-then-unmap
returns-then-unmap c =
    let s : Held = record { memory = c.self.inside.memories; backed = c.self.inside.backing; resources = c.self.inside.resources.entries; shapes = c.self.inside.shapes.entries; cache = c.self.inside.cache } in
    subst (λ (h : Held). Remaps h (record s { backed = c.unmap.new.self }) c.args.id (λ n. n - 1) false) c.self.view_is
    (remapped s c.self.invariant c.args.id (λ n. n - 1) false c.unmap.new.self c.unmap.ensures.maps c.unmap.ensures.backed c.unmap.ensures.whole c.unmap.ensures.allots None (bound_none s c.args.id (c.unmap.ensures.has.0 c.if-unmap.true)))

pub invariant_of-self-in-Some : goal.invariant_of-self-in-Some
invariant_of-self-in-Some c =
    let s : Held = record { memory = c.self.inside.memories; backed = c.self.inside.backing; resources = c.self.inside.resources.entries; shapes = c.self.inside.shapes.entries; cache = c.self.inside.cache } in
    let n = c.in-Some.placed.now.object in
    let is : c.unmap-in-Some.new.self ≡ with_mapped s.memory n false = unmap_leaves s.memory c.unmap-in-Some.new.self n c.unmap-in-Some.result c.unmap-in-Some.ensures.ok c.unmap-in-Some.ensures.state c.unmap-in-Some.ensures.err in
    subst (λ (m : MemoryState). IsConsistent (record s { backed = c.unmap.new.self; memory = m })) (sym is)
    (remapped_consistent s c.self.invariant c.args.id (λ n. n - 1) false c.unmap.new.self c.unmap.ensures.maps c.unmap.ensures.backed c.unmap.ensures.whole c.unmap.ensures.allots (Some n))

pub returns-in-Some : goal.returns-in-Some
returns-in-Some c =
    let s : Held = record { memory = c.self.inside.memories; backed = c.self.inside.backing; resources = c.self.inside.resources.entries; shapes = c.self.inside.shapes.entries; cache = c.self.inside.cache } in
    let n = c.in-Some.placed.now.object in
    let is : c.unmap-in-Some.new.self ≡ with_mapped s.memory n false = unmap_leaves s.memory c.unmap-in-Some.new.self n c.unmap-in-Some.result c.unmap-in-Some.ensures.ok c.unmap-in-Some.ensures.state c.unmap-in-Some.ensures.err in
    let at : placed s c.args.id ≡ Some c.in-Some.placed.now = sym c.get.ensures.value ∙ ap (λ (o : Option (Bor Placed)). option_copied o) c.in-Some.is in
    subst (λ (h : Held). Remaps h (record s { backed = c.unmap.new.self; memory = c.unmap-in-Some.new.self }) c.args.id (λ n. n - 1) false) c.self.view_is
    (subst (λ (m : MemoryState). Remaps s (record s { backed = c.unmap.new.self; memory = m }) c.args.id (λ n. n - 1) false) (sym is)
    (remapped s c.self.invariant c.args.id (λ n. n - 1) false c.unmap.new.self c.unmap.ensures.maps c.unmap.ensures.backed c.unmap.ensures.whole c.unmap.ensures.allots (Some n)
    (bound_is s c.args.id (λ some. let e = c.unmap.ensures.has.1 some in let f = c.if-unmap.false in cc) (Some c.in-Some.placed.now) at)))

pub returns-in_default : goal.returns-in_default
returns-in_default c =
    let s : Held = record { memory = c.self.inside.memories; backed = c.self.inside.backing; resources = c.self.inside.resources.entries; shapes = c.self.inside.shapes.entries; cache = c.self.inside.cache } in
    let at : placed s c.args.id ≡ None = sym c.get.ensures.value ∙ ap (λ (o : Option (Bor Placed)). option_copied o) c.in_default.is in
    subst (λ (h : Held). Remaps h (record s { backed = c.unmap.new.self }) c.args.id (λ n. n - 1) false) c.self.view_is
    (remapped s c.self.invariant c.args.id (λ n. n - 1) false c.unmap.new.self c.unmap.ensures.maps c.unmap.ensures.backed c.unmap.ensures.whole c.unmap.ensures.allots None
    (bound_is s c.args.id (λ some. let e = c.unmap.ensures.has.1 some in let f = c.if-unmap.false in cc) None at))
