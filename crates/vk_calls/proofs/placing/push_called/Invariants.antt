use Rattle.std.proofs.Common.{length}
use Rattle.vk_calls.specs.Calls.{data_of}
use Rattle.vk_calls.specs.Inner.Adding.{IsBegun}
use Rattle.vk_calls.proofs.placing.push_called.Given as goal

abbrev pub invariant-loop-named : goal.invariant-loop-named
invariant-loop-named l = IsBegun (data_of l.calls) l.text l.initial.out.items l.out.items l.rest

abbrev pub decreases-loop-named : goal.decreases-loop-named
decreases-loop-named l = length l.rest
