use Rattle.std.proofs.Common.{[]}
use Rattle.vk_model.specs.Run.Runs.{start}
use Rattle.vk_laws.proofs.Running.StageTasks.{known_of}
use Rattle.vk_laws.proofs.Running.AtStage.{begins}
use Rattle.vk_laws.proofs.Running.StageSteps.{all_steps}
use Rattle.vk_laws.proofs.Living.Lives.{stay_live}
use Rattle.vk_laws.proofs.lifetimes.pieces_stay_live.Goals as goal

pub returns : goal.returns
returns c = λ t steps s x b w run none h is.
    let known = known_of c.before_is_path.ensures c.before_is_order.ensures.transitive c.before_is_order.ensures.forward c.growth_keeps.ensures c.no_fault_is_sound.ensures t none in
    stay_live known c.pieces_are_byte_writes.ensures s _ (all_steps known steps (start t) [] (begins known) s run) x b w h is (c.pieces_stay_inside.ensures t steps s x b w run none h is)
