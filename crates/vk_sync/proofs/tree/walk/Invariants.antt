use Rattle.std.proofs.Common.{◌≡◌, ◌+◌, ◌-◌, length}
use Rattle.std.specs.Prelude.{take, sum}
use Rattle.vk_sync.proofs.tree.walk.Given as goal

abbrev pub invariant-loop-leaf : goal.invariant-loop-leaf
invariant-loop-leaf l = sum (take l.leaf l.numbers) + l.rest ≡ sum (take l.start l.numbers) + l.place

abbrev pub decreases-loop-leaf : goal.decreases-loop-leaf
decreases-loop-leaf l = length l.numbers - l.leaf
