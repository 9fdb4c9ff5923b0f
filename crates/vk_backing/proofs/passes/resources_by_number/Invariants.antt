use Rattle.std.proofs.Common.{map}
use Rattle.std.specs.Map.Iter.{deref_pair}
use Rattle.vk_backing.proofs.Named.{AreNamed}
use Rattle.vk_backing.proofs.passes.resources_by_number.Given as goal

abbrev pub invariant-loop-resource : goal.invariant-loop-resource
invariant-loop-resource l = AreNamed l.backing.allocations (map deref_pair l.yielded) l.ids.entries
