use Rattle.std.proofs.Common.{◌<◌, List, length, ap, ◌∙◌, arith, Option}
use Rattle.vk_model.specs.Run.Caches.{Held}
use Rattle.vk_map_cache.specs.Inner.Objects.{held_of}
use Rattle.vk_map_cache.proofs.QueueLemmas.{object_anew, other_objects}
use Rattle.vk_map_cache.proofs.queue.QueueCache.remove.Goals as goal

pub returns-then-memory-as_slice : goal.returns-then-memory-as_slice
returns-then-memory-as_slice c =
    let objects = c.self.inside.objects.items in
    let named : c.args.memory < length objects = omega (arith, ap length c.as_slice.ensures.value, c.if-memory-as_slice.true) in
    record {
      object = object_anew objects c.args.self.now c.self.view_is c.args.memory c.clear.new.object named ∙ ap (λ (o : Option (List (Option Held))). held_of o) c.clear.ensures;
      others = λ number other. other_objects objects c.args.self.now c.self.view_is c.args.memory c.clear.new.object named number other;
    }
