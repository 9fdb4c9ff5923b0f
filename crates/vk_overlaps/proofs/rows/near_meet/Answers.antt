use Rattle.std.proofs.Common.{sym, ap, ◌∙◌}
use Rattle.vk_model.specs.declared.command.BufferImageCopy.{BufferImageCopy}
use Rattle.vk_model.specs.Basics.{some_pair}
use Rattle.vk_model.specs.Trace.Image.{texel}
use Rattle.vk_model.specs.World.Areas.{rows_meet}
use Rattle.std.proofs.Common.{Bool}
use Rattle.vk_overlaps.specs.Inner.Rows.{rows_have}
use Rattle.vk_overlaps.proofs.RowParts.{pair_of_some}
use Rattle.vk_overlaps.proofs.rows.near_meet.Goals as goal

pub returns : goal.returns
returns c =
    let t = texel c.args.format in
    let meet : BufferImageCopy → BufferImageCopy → Bool = λ g h. rows_meet t g t h in
    λ e. pair_of_some meet (rows_have t c.args.bytes.start c.args.bytes.size) c.args.regions.now (ap (some_pair meet) (sym (c.as_slice.ensures.value ∙ c.in_ok-near.ensures)) ∙ sym c.some_rows_meet.ensures ∙ e)
