use Rattle.std.proofs.Common.{List, refl, subst, sym}
use Rattle.vk_model.specs.declared.command.BufferCopy.{BufferCopy}
use Rattle.vk_model.specs.declared.command.Cmd.TheVariants as cmd
use Rattle.vk_model.specs.Trace.PointViews.{point_of}
use Rattle.vk_history.specs.PointViews.{past}
use Rattle.vk_history.proofs.Kept.ImageCopies.{copied_image}
use Rattle.vk_validate.specs.Inner.Copies.{IsCopyBy}
use Rattle.vk_validate.proofs.Judging.Copying.{copy_by}
use Rattle.vk_validate.proofs.Judging.Early.{early_within}
use Rattle.vk_validate.proofs.rules.hazards.copies.of_copy_image.Goals as goal

pub of_numbers-requires : goal.of_numbers-requires
of_numbers-requires c =
    let earlier = past c.args.history.now in
    let p = point_of c.args.point.now in
    let s = c.args.source in
    let d = c.args.destination in
    let regions = c.args.regions.now in
    let copies = c.in_ok-copies.copies.items in
    let is = c.requires.copies in
    let fit = early_within earlier p c.requires.early c.is_judged.ensures.faultless in
    subst (λ (gs : List BufferCopy). IsCopyBy earlier p s d gs) (sym c.as_slice.ensures.value)
    (copy_by earlier p (cmd.CopyImage s is.0 d is.1 regions) s d copies is.2 refl (copied_image earlier p fit s is.0 d is.1 regions is.2 copies c.in_ok-copies.ensures))
