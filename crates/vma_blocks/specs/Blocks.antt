-- Blocks of a pool, whichever algorithm places their ranges, as the definitions have them.
use Rattle.vk_model.specs.Memory.Room.{Block, General, Stack}
use Rattle.vma_tlsf.specs.Block.{Block as FreeLists, taken}
use Rattle.vma_blocks.specs.declared.any.AnyBlock.{AnyBlock}
use Rattle.vma_blocks.specs.declared.any.AnyBlock.TheVariants as any

-- A block that can be defragmented (VMA, "Custom memory pools").
abbrev pub general_block : FreeLists → Block
general_block b = General b.size (taken b)

-- A block of either algorithm (VMA, "Custom memory pools").
abbrev pub block_of : AnyBlock → Block
block_of (any.General b) = general_block b
block_of (any.Stack b) = Stack b
