use Rattle.std.proofs.Common.{map}
use Rattle.std.specs.Map.Iter.{deref_pair}
use Rattle.vk_places.specs.States.{ArePoolsOf}
use Rattle.vk_places.proofs.listing.pools_of.Given as goal

abbrev pub invariant-loop-id : goal.invariant-loop-id
invariant-loop-id l = ArePoolsOf l.backing l.ranges (map deref_pair l.yielded) l.pools.items
