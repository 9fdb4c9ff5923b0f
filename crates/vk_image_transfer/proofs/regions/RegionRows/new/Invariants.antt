use Rattle.vk_model.specs.World.Areas.{row_count}
use Rattle.vk_transfer.specs.Counted.{AreCounted}
use Rattle.vk_image_transfer.proofs.regions.RegionRows.new.Given as goal

abbrev pub invariant-loop-region : goal.invariant-loop-region
invariant-loop-region l = AreCounted row_count l.regions l.region-index l.counts
