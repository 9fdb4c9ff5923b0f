use Rattle.std.proofs.Common.{◌≡◌, take}
use Rattle.vk_resources.proofs.passes.moving_ids.Given as goal

abbrev pub invariant-loop-index : goal.invariant-loop-index
invariant-loop-index l = l.ids.items ≡ take l.index l.fn.passes.moving
