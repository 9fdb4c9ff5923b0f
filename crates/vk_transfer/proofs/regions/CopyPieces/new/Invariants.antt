use Rattle.vk_transfer.specs.Copies.{region_count}
use Rattle.vk_transfer.specs.Counted.{AreCounted}
use Rattle.vk_transfer.proofs.regions.CopyPieces.new.Given as goal

abbrev pub invariant-loop-region : goal.invariant-loop-region
invariant-loop-region l = AreCounted region_count l.regions l.region-index l.counts
