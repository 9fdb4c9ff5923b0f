use Rattle.std.proofs.Common.{◌≡◌, ◌+◌, ◌≤◌, map, length, Option, Some, sym, ap, ◌∙◌, subst}
use Rattle.vk_model.specs.Basics.{below}
use Rattle.vk_model.specs.World.Bytes.{in_buffer}
use Rattle.vk_resources.specs.declared.resources.Placed.{Placed}
use Rattle.vk_resources.specs.Held.{Held, flat, seen_at}
use Rattle.vk_resources.specs.Inner.Steps.{MayReach}
use Rattle.vk_resources.proofs.HostAccesses.{seen_bytes}
use Rattle.vk_resources.proofs.resources.Resources.copy_seen.Goals as goal

pub returns-in-Some : goal.returns-in-Some
returns-in-Some c =
    let s : Held = record { memory = c.self.inside.memories; backed = c.self.inside.backing; resources = c.self.inside.resources.entries; shapes = c.self.inside.shapes.entries; cache = c.self.inside.cache } in
    let here : flat c.args.self.now c.args.id ≡ Some c.in-Some.buffer = sym c.buffer.ensures ∙ c.in-Some.is in
    let fits : c.args.offset + length c.args.out.now ≤ c.in-Some.buffer.size = subst (λ (x : Option Placed). MayReach x c.args.offset (length c.args.out.now)) here c.requires in
    subst (λ (h : Held). c.read.new.out ≡ map (λ k. seen_at h (in_buffer c.args.id (c.args.offset + k))) (below (length c.args.out.now))) c.self.view_is
    (seen_bytes s c.args.id c.args.offset c.in-Some.buffer c.read.new.out (length c.args.out.now) (ap (λ (h : Held). flat h c.args.id) c.self.view_is ∙ here) fits c.read.auto.out (λ k lt. rw c.region-region.ensures at (c.read.ensures k lt)))
