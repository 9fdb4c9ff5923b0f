use Rattle.std.proofs.Common.{◌≡◌, false, take}
use Rattle.std.specs.List.{list_any}
use Rattle.vk_queues.specs.PointViews.{past_of}
use Rattle.vk_hazards.specs.Counters.{is_unmet}
use Rattle.vk_hazards.proofs.counters.unmet_among.Given as goal

abbrev pub invariant-loop-wait : goal.invariant-loop-wait
invariant-loop-wait l = list_any (is_unmet (past_of l.older)) (take l.wait-index l.waits) ≡ false
