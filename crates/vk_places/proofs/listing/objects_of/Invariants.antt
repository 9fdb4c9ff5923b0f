use Rattle.std.proofs.Common.{◌≡◌, take}
use Rattle.vk_places.specs.Listed.{objects_from}
use Rattle.vk_places.proofs.listing.objects_of.Given as goal

abbrev pub invariant-loop-number : goal.invariant-loop-number
invariant-loop-number l = l.objects.items ≡ objects_from l.owners.entries 0 (take l.number l.memories.objects)
