use Rattle.std.proofs.Common.{[]}
use Rattle.vk_model.specs.Run.Runs.{start}
use Rattle.vk_laws.proofs.Running.StageTasks.{known_of}
use Rattle.vk_laws.proofs.Running.AtStage.{begins}
use Rattle.vk_laws.proofs.Running.StageSteps.{all_steps}
use Rattle.vk_laws.proofs.Living.Unended.{named_live}
use Rattle.vk_laws.proofs.lifetimes.commands_name_live.Goals as goal

pub returns : goal.returns
returns c = λ t steps s n d k i kind run none cn runs lt left asked.
    let known = known_of c.before_is_path.ensures c.before_is_order.ensures.transitive c.before_is_order.ensures.forward c.growth_keeps.ensures c.no_fault_is_sound.ensures t none in
    named_live known s _ (all_steps known steps (start t) [] (begins known) s run) n d k cn runs lt left i kind asked
