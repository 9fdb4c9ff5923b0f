use Rattle.std.proofs.Common.{[]}
use Rattle.vk_model.specs.Run.Runs.{start}
use Rattle.vk_laws.proofs.Running.StageTasks.{known_of}
use Rattle.vk_laws.proofs.Running.AtStage.{begins}
use Rattle.vk_laws.proofs.Running.StageSteps.{all_steps}
use Rattle.vk_laws.proofs.Living.Ran.{names_ran}
use Rattle.vk_laws.proofs.lifetimes.pieces_before_have_run.Goals as goal

pub returns : goal.returns
returns c = λ t steps s m h x run none cm ch host b cx.
    let known = known_of c.before_is_path.ensures c.before_is_order.ensures.transitive c.before_is_order.ensures.forward c.growth_keeps.ensures c.no_fault_is_sound.ensures t none in
    names_ran known s _ (all_steps known steps (start t) [] (begins known) s run) m h x cm ch host b cx
