use Rattle.vk_laws.proofs.Running.StageTasks.{known_of}
use Rattle.vk_laws.proofs.DirectRuns.NewMemory.{new_memory}
use Rattle.vk_laws.proofs.direct_runs.new_memory_holds_anything.Goals as goal

pub returns : goal.returns
returns c = λ t steps s m n none r same empty.
    new_memory (known_of c.before_is_path.ensures c.before_is_order.ensures.transitive c.before_is_order.ensures.forward c.growth_keeps.ensures c.no_fault_is_sound.ensures t none)
    c.pieces_are_byte_writes.ensures steps s m n r same empty
