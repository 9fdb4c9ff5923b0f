use Rattle.std.proofs.Common.{[]}
use Rattle.vk_model.specs.Run.Runs.{start}
use Rattle.vk_laws.proofs.Running.StageTasks.{known_of}
use Rattle.vk_laws.proofs.Running.AtStage.{begins, grows}
use Rattle.vk_laws.proofs.Running.StageSteps.{all_steps}
use Rattle.vk_laws.proofs.DirectRuns.Inside.{inside}
use Rattle.vk_laws.proofs.direct_runs.pieces_stay_inside.Goals as goal

pub returns : goal.returns
returns c = λ t steps s x b w run none h is.
    let known = known_of c.before_is_path.ensures c.before_is_order.ensures.transitive c.before_is_order.ensures.forward c.growth_keeps.ensures c.no_fault_is_sound.ensures t none in
    inside known c.pieces_are_byte_writes.ensures _ s.front.past (grows known s _ (all_steps known steps (start t) [] (begins known) s run)) s.done x b w h is
