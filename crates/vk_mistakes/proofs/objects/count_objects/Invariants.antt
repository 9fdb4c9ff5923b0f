use Rattle.std.proofs.Common.{length}
use Rattle.std.specs.Prelude.{⊤}
use Rattle.vk_mistakes.proofs.objects.count_objects.Given as goal

abbrev pub invariant-loop-token : goal.invariant-loop-token
invariant-loop-token l = ⊤

abbrev pub decreases-loop-token : goal.decreases-loop-token
decreases-loop-token l = length l.reader
