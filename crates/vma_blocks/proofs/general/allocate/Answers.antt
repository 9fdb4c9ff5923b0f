use Rattle.vma_tlsf.specs.Block.{taken}
use Rattle.vma_tlsf.specs.Inner.Sound.{taken_is_sound}
use Rattle.vk_model.specs.Memory.Suballocation.{IsSound}
use Rattle.std.proofs.Common.{subst}
use Rattle.vma_blocks.proofs.BlockLemmas.{gives_put}
use Rattle.vma_blocks.proofs.general.allocate.Goals as goal

pub returns-clause-ok : goal.returns-clause-ok
returns-clause-ok c =
    gives_put c.args.block.now.size c.allocate.new.self.size (taken c.args.block.now) (taken c.allocate.new.self) (record { size = c.args.bytes; align = c.args.align; kind = c.args.kind })
    c.allocate.result c.allocate.ensures.block (subst (λ n. IsSound n (taken c.allocate.new.self)) c.allocate.ensures.block (taken_is_sound c.allocate.new.self)) c.allocate.ensures.ok
