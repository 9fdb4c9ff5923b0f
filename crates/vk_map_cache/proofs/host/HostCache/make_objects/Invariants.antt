use Rattle.std.proofs.Common.{◌+◌, ◌-◌, length}
use Rattle.vk_map_cache.specs.Holdings.{HoldsSame}
use Rattle.vk_map_cache.proofs.host.HostCache.make_objects.Given as goal

abbrev pub invariant-loop-self : goal.invariant-loop-self
invariant-loop-self l = HoldsSame l.initial.self-inside.objects.items l.self-inside.objects.items

abbrev pub decreases-loop-self : goal.decreases-loop-self
decreases-loop-self l = l.memory + 1 - length l.self-inside.objects.items
