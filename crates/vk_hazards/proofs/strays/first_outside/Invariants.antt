use Rattle.std.proofs.Common.{◌≡◌, false, take}
use Rattle.std.specs.List.{list_any}
use Rattle.vk_queues.specs.PointViews.{past_of}
use Rattle.vk_hazards.specs.Strays.{is_outside}
use Rattle.vk_hazards.proofs.strays.first_outside.Given as goal

abbrev pub invariant-loop-id : goal.invariant-loop-id
invariant-loop-id l = list_any (is_outside (past_of l.points) l.pool) (take l.id-index l.ids) ≡ false
