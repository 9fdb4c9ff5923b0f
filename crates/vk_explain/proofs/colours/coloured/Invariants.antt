use Rattle.std.proofs.Common.{length}
use Rattle.vk_explain.specs.Inner.Coloured.{IsBegun}
use Rattle.vk_explain.proofs.colours.coloured.Given as goal

abbrev pub invariant-loop-rest : goal.invariant-loop-rest
invariant-loop-rest l = IsBegun l.text l.shown.items l.rest

abbrev pub decreases-loop-rest : goal.decreases-loop-rest
decreases-loop-rest l = length l.rest
