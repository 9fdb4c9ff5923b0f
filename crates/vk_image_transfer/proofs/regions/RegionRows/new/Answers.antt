use Rattle.std.proofs.Common.{◌+◌, List, ℕ, ap, sym, subst, arith}
use Rattle.std.specs.Prelude.{Err}
use Rattle.vk_model.specs.declared.command.BufferImageCopy.{BufferImageCopy}
use Rattle.vk_model.specs.World.Areas.{row_count}
use Rattle.vk_transfer.specs.declared.counts.CopyError.{CopyError}
use Rattle.vk_transfer.specs.declared.counts.CopyError.TheVariants.{TooManyPieces}
use Rattle.vk_transfer.specs.Counted.{AreCounted}
use Rattle.vk_transfer.proofs.Counting.{same_error, more_counted, more_within}
use Rattle.vk_image_transfer.proofs.regions.RegionRows.new.Goals as goal

abbrev none : BufferImageCopy
none = record { buffer_offset = 0; row_length = 0; image_height = 0; level = 0; first_layer = 0; layers = 0; x = 0; y = 0; width = 0; height = 0 }

pub returns-in_err-add-clause-many : goal.returns-in_err-add-clause-many
returns-in_err-add-clause-many c = λ is.
    let within = more_within row_count c.args.regions.now c.loop-region.region-index c.row_count.result none c.loop-region.counts c.loop-region-test.true c.loop-region.invariant c.row_count.ensures in
    let many = c.in_err-add.ensures.many (ap (λ (e : CopyError). Err e) (same_error c.from_residual.result c.in_err-add.field-0.0 TooManyPieces is c.from_residual.ensures.1)) in
    omega (arith, within, many)

pub loop-region-preserved : goal.loop-region-preserved
loop-region-preserved c =
    subst (λ (l : List ℕ). AreCounted row_count c.args.regions.now (c.loop-region.region-index + 1) l) (sym c.in_ok-add.ensures.more)
    (more_counted row_count c.args.regions.now c.loop-region.region-index c.row_count.result none c.loop-region.counts c.loop-region-test.true c.loop-region.invariant c.row_count.ensures)
