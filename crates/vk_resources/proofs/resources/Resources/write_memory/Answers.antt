use Rattle.std.proofs.Common.{◌≡◌, ◌+◌, ◌≤◌, List, ℕ, length, Option, Some, false, sym, ap, ◌∙◌, subst}
use Rattle.vk_heap.specs.Region.{splice}
use Rattle.vk_map_cache.specs.Holdings.{given}
use Rattle.vk_memory.specs.MemoryState.{region_of}
use Rattle.vk_model.specs.Run.CachedRuns.{after_host_write}
use Rattle.vk_resources.specs.declared.resources.Placed.{Placed}
use Rattle.vk_resources.specs.Held.{Held, IsConsistent, placed, shape_of, flat}
use Rattle.vk_resources.specs.Inner.Steps.{MayReach, HasChanged}
use Rattle.vk_resources.proofs.Splicing.{spliced_apart, spliced_caching, spliced_written}
use Rattle.vk_resources.proofs.Matching.{flat_parts}
use Rattle.vk_resources.proofs.Commands.{with_bytes}
use Rattle.vk_resources.proofs.resources.Resources.write_memory.Goals as goal

pub invariant_of-self : goal.invariant_of-self
invariant_of-self c =
    let s : Held = record { memory = c.self.inside.memories; backed = c.self.inside.backing; resources = c.self.inside.resources.entries; shapes = c.self.inside.shapes.entries; cache = c.self.inside.cache } in
    let here : flat c.args.self.now c.args.id ≡ Some c.in-Some.buffer = sym c.buffer.ensures ∙ c.in-Some.is in
    let parts = flat_parts (shape_of s c.args.id) (placed s c.args.id) c.in-Some.buffer (ap (λ (h : Held). flat h c.args.id) c.self.view_is ∙ here) in
    let fits : c.args.offset + length c.args.bytes.now ≤ c.in-Some.buffer.size = subst (λ (x : Option Placed). MayReach x c.args.offset (length c.args.bytes.now)) here c.requires in
    let is : c.write.new.self ≡ splice (region_of s.memory c.in-Some.buffer.object) (c.in-Some.buffer.offset + c.args.offset) c.args.bytes.now = rw c.region_mut-region.ensures.value at c.write.ensures in
    subst (λ (r : List ℕ). IsConsistent (with_bytes s c.in-Some.buffer.object r)) (sym is)
    (spliced_apart s c.self.invariant.0 c.self.invariant.2 c.args.id c.in-Some.buffer parts.1 parts.0 c.args.offset c.args.bytes.now fits, spliced_caching s c.self.invariant.0 c.self.invariant.2 c.args.id c.in-Some.buffer parts.1 parts.0 c.args.offset c.args.bytes.now fits c.self.invariant.1, c.self.invariant.2)

pub returns-in-Some : goal.returns-in-Some
returns-in-Some c =
    let s : Held = record { memory = c.self.inside.memories; backed = c.self.inside.backing; resources = c.self.inside.resources.entries; shapes = c.self.inside.shapes.entries; cache = c.self.inside.cache } in
    let here : flat c.args.self.now c.args.id ≡ Some c.in-Some.buffer = sym c.buffer.ensures ∙ c.in-Some.is in
    let parts = flat_parts (shape_of s c.args.id) (placed s c.args.id) c.in-Some.buffer (ap (λ (h : Held). flat h c.args.id) c.self.view_is ∙ here) in
    let fits : c.args.offset + length c.args.bytes.now ≤ c.in-Some.buffer.size = subst (λ (x : Option Placed). MayReach x c.args.offset (length c.args.bytes.now)) here c.requires in
    let is : c.write.new.self ≡ splice (region_of s.memory c.in-Some.buffer.object) (c.in-Some.buffer.offset + c.args.offset) c.args.bytes.now = rw c.region_mut-region.ensures.value at c.write.ensures in
    subst (λ (h : Held). HasChanged h (with_bytes s c.in-Some.buffer.object c.write.new.self) c.args.id (λ k. after_host_write false (given c.args.offset c.args.bytes.now k))) c.self.view_is
    (subst (λ (r : List ℕ). HasChanged s (with_bytes s c.in-Some.buffer.object r) c.args.id (λ k. after_host_write false (given c.args.offset c.args.bytes.now k))) (sym is)
    (spliced_written s c.self.invariant.0 c.self.invariant.2 c.args.id c.in-Some.buffer parts.1 parts.0 c.args.offset c.args.bytes.now fits))
