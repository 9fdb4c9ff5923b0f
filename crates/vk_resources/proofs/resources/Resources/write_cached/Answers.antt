use Rattle.std.proofs.Common.{◌≡◌, ◌+◌, ◌≤◌, length, Option, Some, true, sym, ap, ◌∙◌, subst}
use Rattle.vk_resources.specs.declared.resources.Placed.{Placed}
use Rattle.vk_resources.specs.Held.{Held, shape_of}
use Rattle.vk_resources.specs.Inner.Steps.{MayReach, cached_at, HasChanged}
use Rattle.vk_model.specs.Run.CachedRuns.{after_host_write}
use Rattle.vk_map_cache.specs.Holdings.{given}
use Rattle.vk_resources.proofs.CachedSteps.{wrote, same_consistent}
use Rattle.vk_resources.proofs.resources.Resources.write_cached.Goals as goal

pub invariant_of-self : goal.invariant_of-self
invariant_of-self c =
    let s : Held = record { memory = c.self.inside.memories; backed = c.self.inside.backing; resources = c.self.inside.resources.entries; shapes = c.self.inside.shapes.entries; cache = c.self.inside.cache } in
    let here : cached_at c.args.self.now c.args.id ≡ Some c.in-Some.buffer = sym c.cached.ensures ∙ c.in-Some.is in
    let fits : c.args.offset + length c.args.bytes.now ≤ c.in-Some.buffer.size = subst (λ (x : Option Placed). MayReach x c.args.offset (length c.args.bytes.now)) here c.requires.range in
    let flat_is = ap (λ (h : Held). shape_of h c.args.id) c.self.view_is ∙ c.requires.buffer in
    (wrote s c.self.invariant c.args.id c.in-Some.buffer (ap (λ (h : Held). cached_at h c.args.id) c.self.view_is ∙ here) flat_is c.args.offset c.args.bytes.now c.region-region.result.now c.write.new.self fits c.region-region.ensures c.in_ok-write.ensures.ok).0

pub returns-in_ok-write : goal.returns-in_ok-write
returns-in_ok-write c =
    let s : Held = record { memory = c.self.inside.memories; backed = c.self.inside.backing; resources = c.self.inside.resources.entries; shapes = c.self.inside.shapes.entries; cache = c.self.inside.cache } in
    let here : cached_at c.args.self.now c.args.id ≡ Some c.in-Some.buffer = sym c.cached.ensures ∙ c.in-Some.is in
    let fits : c.args.offset + length c.args.bytes.now ≤ c.in-Some.buffer.size = subst (λ (x : Option Placed). MayReach x c.args.offset (length c.args.bytes.now)) here c.requires.range in
    let flat_is = ap (λ (h : Held). shape_of h c.args.id) c.self.view_is ∙ c.requires.buffer in
    subst (λ (h : Held). HasChanged h (record s { cache = c.write.new.self }) c.args.id (λ k. after_host_write true (given c.args.offset c.args.bytes.now k))) c.self.view_is
    (wrote s c.self.invariant c.args.id c.in-Some.buffer (ap (λ (h : Held). cached_at h c.args.id) c.self.view_is ∙ here) flat_is c.args.offset c.args.bytes.now c.region-region.result.now c.write.new.self fits c.region-region.ensures c.in_ok-write.ensures.ok).1

pub returns-in_default : goal.returns-in_default
returns-in_default c = absurd (subst (λ (x : Option Placed). MayReach x c.args.offset (length c.args.bytes.now)) (sym c.in_default.ensures) c.requires.range)

pub invariant_of-self-in_err-write : goal.invariant_of-self-in_err-write
invariant_of-self-in_err-write c =
    let s : Held = record { memory = c.self.inside.memories; backed = c.self.inside.backing; resources = c.self.inside.resources.entries; shapes = c.self.inside.shapes.entries; cache = c.self.inside.cache } in
    same_consistent s c.write.new.self c.self.invariant c.in_err-write.ensures.err
