-- What a block ends as, once a `&mut` to its slots has ended.
use Rattle.std.specs.Prelude.{List}
use Rattle.std.specs.Borrow.{Fml, MutBor, Array, Lends}
use Rattle.vk_nodes.specs.declared.block.Block.{Block}
use Rattle.vk_nodes.specs.declared.slot.Slot.{Slot}
use Rattle.vk_nodes.specs.contracts.slot.Slot as slot
use Rattle.vk_nodes.specs.contracts.block.Block.{the_row}

-- The block with other slots.
abbrev pub with_slots : Block → List Slot → Block
with_slots b xs = record b { slots = xs }

abbrev pub lends_slots : MutBor Block → MutBor (List Slot) → Fml
lends_slots b r = Lends the_row (Array slot.the_row 0) b r (with_slots b.now)
