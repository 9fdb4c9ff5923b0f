use Rattle.std.proofs.Common.{refl}
use Rattle.vk_model.specs.declared.command.Cmd.TheVariants as cmd
use Rattle.vk_model.specs.Trace.PointViews.{point_of}
use Rattle.vk_history.specs.PointViews.{past}
use Rattle.vk_history.proofs.Kept.CopySteps.{buffers_copied}
use Rattle.vk_validate.proofs.Judging.Copying.{copy_by}
use Rattle.vk_validate.proofs.Judging.Early.{early_within}
use Rattle.vk_validate.proofs.rules.hazards.copies.of_copy.Goals as goal

pub of_numbers-requires : goal.of_numbers-requires
of_numbers-requires c =
    let earlier = past c.args.history.now in
    let p = point_of c.args.point.now in
    let s = c.args.source in
    let d = c.args.destination in
    let regions = c.args.regions.now in
    let is = c.requires.copies in
    let fit = early_within earlier p c.requires.early c.is_judged.ensures.faultless in
    copy_by earlier p (cmd.Copy s d regions) s d regions is refl (buffers_copied earlier p fit s d regions is)
