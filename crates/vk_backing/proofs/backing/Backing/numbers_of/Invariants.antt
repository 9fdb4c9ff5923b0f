use Rattle.std.proofs.Common.{◌≡◌, take}
use Rattle.std.specs.List.{filter_map}
use Rattle.vk_backing.specs.Backed.{number_in}
use Rattle.vk_backing.proofs.backing.Backing.numbers_of.Given as goal

abbrev pub invariant-loop-id : goal.invariant-loop-id
invariant-loop-id l = l.numbers.items ≡ filter_map (number_in l.self-inside.allocations.entries) (take l.id-index l.ids)
