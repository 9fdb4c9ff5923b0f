use Rattle.std.proofs.Common.{subst}
use Rattle.vk_model.specs.Memory.LinearBlocks.{IsLinearBlock}
use Rattle.vma_linear.proofs.SoundBlocks.{answer_sound}
use Rattle.vma_linear.proofs.suballoc.LinearSuballoc.allocate.Goals as goal

pub returns-clause-ok : goal.returns-clause-ok
returns-clause-ok c =
    answer_sound c.allocate_lower.result c.args.self.now c.allocate_lower.new.self (record { size = c.args.bytes; align = c.args.align; kind = c.args.kind })
    (subst IsLinearBlock c.self.view_is c.self.invariant.block) c.requires.some c.allocate_lower.ensures.ok
