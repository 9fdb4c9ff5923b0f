use Rattle.std.proofs.Common.{ℕ, ◌+◌, List, ap, sym, subst, arith}
use Rattle.vk_model.specs.declared.command.BufferCopy.{BufferCopy}
use Rattle.vk_transfer.specs.Copies.{region_count}
use Rattle.vk_transfer.specs.Counted.{AreCounted}
use Rattle.vk_transfer.proofs.Counting.{same_error, copy_count, region_sized, more_counted, more_within}
use Rattle.std.specs.Prelude.{Err}
use Rattle.vk_transfer.specs.declared.counts.CopyError.{CopyError}
use Rattle.vk_transfer.specs.declared.counts.CopyError.TheVariants.{TooManyPieces}
use Rattle.vk_transfer.proofs.regions.CopyPieces.new.Goals as goal

abbrev none : BufferCopy
none = record { source_offset = 0; destination_offset = 0; size = 0 }

pub returns-in_err-add-clause-many : goal.returns-in_err-add-clause-many
returns-in_err-add-clause-many c = λ is s d.
    let gs = c.args.regions.now in
    let i = c.loop-region.region-index in
    let within = more_within region_count gs i c.piece_count.result none c.loop-region.counts c.loop-region-test.true c.loop-region.invariant (region_sized gs i none c.piece_count.result c.piece_count.ensures) in
    let many = c.in_err-add.ensures.many (ap (λ (e : CopyError). Err e) (same_error c.from_residual.result c.in_err-add.field-0.0 TooManyPieces is c.from_residual.ensures.1)) in
    omega (arith, within, many, copy_count s d gs)

pub loop-region-preserved : goal.loop-region-preserved
loop-region-preserved c =
    let gs = c.args.regions.now in
    let i = c.loop-region.region-index in
    subst (λ (l : List ℕ). AreCounted region_count gs (i + 1) l) (sym c.in_ok-add.ensures.more)
    (more_counted region_count gs i c.piece_count.result none c.loop-region.counts c.loop-region-test.true c.loop-region.invariant (region_sized gs i none c.piece_count.result c.piece_count.ensures))
