use Rattle.std.proofs.Common.{subst}
use Rattle.vk_model.specs.Memory.LinearBlocks.{IsLinearBlock}
use Rattle.vma_linear.proofs.SoundBlocks.{largest_sound}
use Rattle.vma_linear.proofs.suballoc.LinearSuballoc.largest_free.Goals as goal

pub returns : goal.returns
returns c = largest_sound c.args.self.now c.widest_gap.result (subst IsLinearBlock c.self.view_is c.self.invariant.block) c.widest_gap.ensures
