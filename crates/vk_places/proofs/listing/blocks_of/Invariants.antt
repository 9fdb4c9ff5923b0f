use Rattle.std.proofs.Common.{take}
use Rattle.vk_places.specs.Listed.{AreBlocksOf}
use Rattle.vk_places.proofs.listing.blocks_of.Given as goal

abbrev pub invariant-loop-block : goal.invariant-loop-block
invariant-loop-block l = AreBlocksOf l.ranges (take l.block-index l.objects) l.found.items
