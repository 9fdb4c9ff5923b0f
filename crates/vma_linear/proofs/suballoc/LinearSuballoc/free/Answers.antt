use Rattle.std.proofs.Common.{subst}
use Rattle.vk_model.specs.Memory.LinearBlocks.{IsLinearBlock}
use Rattle.vma_linear.proofs.SoundBlocks.{free_sound}
use Rattle.vma_linear.proofs.suballoc.LinearSuballoc.free.Goals as goal

pub returns-clause-freed : goal.returns-clause-freed
returns-clause-freed c =
    free_sound c.args.self.now c.give_back.new.self c.args.start (subst IsLinearBlock c.self.view_is c.self.invariant.block) c.requires c.give_back.ensures
