use Rattle.std.proofs.Common.{◌≡◌, ◌∙◌, ap, sym, subst, true, Option, Some, None, Bor}
use Rattle.std.specs.Option.{option_copied}
use Rattle.vk_memory.specs.MemoryState.{MemoryState, with_mapped}
use Rattle.vk_backing.specs.Steps.{one_more}
use Rattle.vk_backing.proofs.Remapped.{map_leaves}
use Rattle.vk_resources.specs.declared.resources.Placed.{Placed}
use Rattle.vk_resources.specs.Held.{Held, IsConsistent, placed}
use Rattle.vk_resources.specs.Inner.Steps.{Remaps}
use Rattle.vk_resources.proofs.Remapping.{remapped_consistent, remapped, bound_none, bound_is}
use Rattle.vk_resources.proofs.resources.Resources.map.Goals as goal

pub returns-then-map : goal.returns-then-map
returns-then-map c =
    let s : Held = record { memory = c.self.inside.memories; backed = c.self.inside.backing; resources = c.self.inside.resources.entries; shapes = c.self.inside.shapes.entries; cache = c.self.inside.cache } in
    subst (λ (h : Held). Remaps h (record s { backed = c.map.new.self }) c.args.id one_more true) c.self.view_is
    (remapped s c.self.invariant c.args.id one_more true c.map.new.self c.map.ensures.maps c.map.ensures.backed c.map.ensures.whole c.map.ensures.allots None (bound_none s c.args.id (c.map.ensures.has.0 c.if-map.true)))

pub invariant_of-self-in-Some : goal.invariant_of-self-in-Some
invariant_of-self-in-Some c =
    let s : Held = record { memory = c.self.inside.memories; backed = c.self.inside.backing; resources = c.self.inside.resources.entries; shapes = c.self.inside.shapes.entries; cache = c.self.inside.cache } in
    let n = c.in-Some.placed.now.object in
    let is : c.map-in-Some.new.self ≡ with_mapped s.memory n true = map_leaves s.memory c.map-in-Some.new.self n c.map-in-Some.result c.map-in-Some.ensures.ok c.map-in-Some.ensures.state c.map-in-Some.ensures.err in
    subst (λ (m : MemoryState). IsConsistent (record s { backed = c.map.new.self; memory = m })) (sym is)
    (remapped_consistent s c.self.invariant c.args.id one_more true c.map.new.self c.map.ensures.maps c.map.ensures.backed c.map.ensures.whole c.map.ensures.allots (Some n))

pub returns-in-Some : goal.returns-in-Some
returns-in-Some c =
    let s : Held = record { memory = c.self.inside.memories; backed = c.self.inside.backing; resources = c.self.inside.resources.entries; shapes = c.self.inside.shapes.entries; cache = c.self.inside.cache } in
    let n = c.in-Some.placed.now.object in
    let is : c.map-in-Some.new.self ≡ with_mapped s.memory n true = map_leaves s.memory c.map-in-Some.new.self n c.map-in-Some.result c.map-in-Some.ensures.ok c.map-in-Some.ensures.state c.map-in-Some.ensures.err in
    let at : placed s c.args.id ≡ Some c.in-Some.placed.now = sym c.get.ensures.value ∙ ap (λ (o : Option (Bor Placed)). option_copied o) c.in-Some.is in
    subst (λ (h : Held). Remaps h (record s { backed = c.map.new.self; memory = c.map-in-Some.new.self }) c.args.id one_more true) c.self.view_is
    (subst (λ (m : MemoryState). Remaps s (record s { backed = c.map.new.self; memory = m }) c.args.id one_more true) (sym is)
    (remapped s c.self.invariant c.args.id one_more true c.map.new.self c.map.ensures.maps c.map.ensures.backed c.map.ensures.whole c.map.ensures.allots (Some n)
    (bound_is s c.args.id (λ some. let e = c.map.ensures.has.1 some in let f = c.if-map.false in cc) (Some c.in-Some.placed.now) at)))

pub returns-in_default : goal.returns-in_default
returns-in_default c =
    let s : Held = record { memory = c.self.inside.memories; backed = c.self.inside.backing; resources = c.self.inside.resources.entries; shapes = c.self.inside.shapes.entries; cache = c.self.inside.cache } in
    let at : placed s c.args.id ≡ None = sym c.get.ensures.value ∙ ap (λ (o : Option (Bor Placed)). option_copied o) c.in_default.is in
    subst (λ (h : Held). Remaps h (record s { backed = c.map.new.self }) c.args.id one_more true) c.self.view_is
    (remapped s c.self.invariant c.args.id one_more true c.map.new.self c.map.ensures.maps c.map.ensures.backed c.map.ensures.whole c.map.ensures.allots None
    (bound_is s c.args.id (λ some. let e = c.map.ensures.has.1 some in let f = c.if-map.false in cc) None at))
