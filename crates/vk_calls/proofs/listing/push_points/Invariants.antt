use Rattle.std.proofs.Common.{length}
use Rattle.vk_calls.specs.Calls.{data_of}
use Rattle.vk_calls.specs.CalledObject.{HaveCalls}
use Rattle.vk_calls.proofs.listing.push_points.Given as goal

abbrev pub invariant-loop-named : goal.invariant-loop-named
invariant-loop-named l = HaveCalls (data_of l.calls) l.points.items

abbrev pub decreases-loop-named : goal.decreases-loop-named
decreases-loop-named l = length l.rest
