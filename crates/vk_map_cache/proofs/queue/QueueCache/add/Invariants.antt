use Rattle.std.proofs.Common.{◌≡◌, ℕ, ◌+◌, ◌-◌, length}
use Rattle.vk_map_cache.specs.Holdings.{object_in}
use Rattle.vk_map_cache.specs.Inner.Objects.{all_held}
use Rattle.vk_map_cache.proofs.queue.QueueCache.add.Given as goal

abbrev pub invariant-loop-self : goal.invariant-loop-self
invariant-loop-self l = (number : ℕ) → object_in (all_held l.self-inside.objects.items) number ≡ object_in (all_held l.initial.self-inside.objects.items) number

abbrev pub decreases-loop-self : goal.decreases-loop-self
decreases-loop-self l = l.memory + 1 - length l.self-inside.objects.items
