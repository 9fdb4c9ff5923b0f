use Rattle.std.proofs.Common.{◌-◌}
use Rattle.vk_sync.proofs.LeftLemmas.{IsCountedTo}
use Rattle.vk_sync.proofs.flags.PieceFlags.all.Given as goal

abbrev pub invariant-loop-counted : goal.invariant-loop-counted
invariant-loop-counted l = IsCountedTo l.count l.counted l.groups

abbrev pub decreases-loop-counted : goal.decreases-loop-counted
decreases-loop-counted l = l.count - l.counted
