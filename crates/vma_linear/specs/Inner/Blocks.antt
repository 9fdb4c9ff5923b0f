-- What holds of the fields of a linear block.
use Rattle.std.specs.Prelude.{◌≡◌, ◌<◌, ◌^◌}
use Rattle.vk_model.specs.Memory.Room.{Linear}
use Rattle.vk_model.specs.Memory.LinearBlocks.{IsLinearBlock}
use Rattle.vma_linear.specs.declared.linear.Linear.TheInside.{Inside}
use Rattle.vma_linear.specs.declared.slots.Direction.TheVariants.{Up, Down}

-- The block that the fields are seen as.
abbrev pub block_of : Inside → Linear
block_of b = record { size = b.size; ring = b.ring; lower = b.lower.taken; wrapped = b.wrapped.taken; upper = b.upper.taken }

-- It is a linear block, and the lists go the ways that they should.
pub record AreLists (b : Inside) : Type 0 where
  pub block : IsLinearBlock (block_of b)
  pub size : b.size < 2 ^ 63
  pub lower : b.lower.direction ≡ Up
  pub wrapped : b.wrapped.direction ≡ Up
  pub upper : b.upper.direction ≡ Down
