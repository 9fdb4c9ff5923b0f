use Rattle.std.proofs.Common.{◌≡◌, map, take}
use Rattle.vk_model.specs.Rules.Ids.{is_semaphore}
use Rattle.vk_hazards.specs.Lives.{asked_of}
use Rattle.vk_hazards.proofs.asked.asked_by_waits.Given as goal

abbrev pub invariant-loop-wait : goal.invariant-loop-wait
invariant-loop-wait l = map asked_of l.all.items ≡ map (λ w. (w.semaphore, is_semaphore)) (take l.wait-index l.waits)
