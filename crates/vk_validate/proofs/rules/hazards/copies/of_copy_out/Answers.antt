use Rattle.std.proofs.Common.{List, refl, subst, sym}
use Rattle.vk_model.specs.declared.command.BufferCopy.{BufferCopy}
use Rattle.vk_model.specs.declared.command.Cmd.TheVariants as cmd
use Rattle.vk_model.specs.Trace.PointViews.{point_of}
use Rattle.vk_history.specs.PointViews.{past}
use Rattle.vk_history.proofs.Kept.ImageCopies.{copied_out}
use Rattle.vk_validate.specs.Inner.Copies.{IsCopyBy}
use Rattle.vk_validate.proofs.Judging.Copying.{copy_by}
use Rattle.vk_validate.proofs.Judging.Early.{early_within}
use Rattle.vk_validate.proofs.rules.hazards.copies.of_copy_out.Goals as goal

pub of_numbers-requires : goal.of_numbers-requires
of_numbers-requires c =
    let earlier = past c.args.history.now in
    let p = point_of c.args.point.now in
    let i = c.args.image in
    let b = c.args.buffer in
    let regions = c.args.regions.now in
    let copies = c.in_ok-copies.copies.items in
    let is = c.requires.copies in
    let fit = early_within earlier p c.requires.early c.is_judged.ensures.faultless in
    subst (λ (gs : List BufferCopy). IsCopyBy earlier p i b gs) (sym c.as_slice.ensures.value)
    (copy_by earlier p (cmd.CopyOut i is.0 b regions) i b copies is.1 refl (copied_out earlier p fit i is.0 b regions is.1 copies c.in_ok-copies.ensures))
