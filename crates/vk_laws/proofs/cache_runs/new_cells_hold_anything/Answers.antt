use Rattle.vk_laws.proofs.Running.StageTasks.{known_of}
use Rattle.vk_laws.proofs.GoingOn.{new_cells}
use Rattle.vk_laws.proofs.cache_runs.new_cells_hold_anything.Goals as goal

pub returns : goal.returns
returns c = λ t steps s cells other none r same empty.
    new_cells (known_of c.before_is_path.ensures c.before_is_order.ensures.transitive c.before_is_order.ensures.forward c.growth_keeps.ensures c.no_fault_is_sound.ensures t none)
    c.pieces_are_byte_writes.ensures steps s cells other r same empty
