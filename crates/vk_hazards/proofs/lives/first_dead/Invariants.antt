use Rattle.std.proofs.Common.{◌≡◌, false, take}
use Rattle.std.specs.List.{list_any}
use Rattle.vk_model.specs.Rules.Ids.{is_dead}
use Rattle.vk_queues.specs.PointViews.{past_of}
use Rattle.vk_hazards.specs.Lives.{asked_of}
use Rattle.vk_hazards.proofs.lives.first_dead.Given as goal

abbrev pub invariant-loop-one : goal.invariant-loop-one
invariant-loop-one l = list_any (λ a. is_dead (past_of l.points) (asked_of a)) (take l.one-index l.asked) ≡ false
