use Rattle.vk_image_transfer.specs.Pieces.{copy_rows}
use Rattle.vk_transfer.specs.Counted.{AreCounted}
use Rattle.vk_image_transfer.proofs.regions.ImageCopyRows.new.Given as goal

abbrev pub invariant-loop-region : goal.invariant-loop-region
invariant-loop-region l = AreCounted copy_rows l.regions l.region-index l.counts
