use Rattle.std.proofs.Common.{◌∙◌, ap}
use Rattle.std.proofs.lemmas.Result.{IfOk-weaker}
use Rattle.vk_model.specs.Basics.{some_pair}
use Rattle.vk_model.specs.World.Areas.{subresources_meet}
use Rattle.vk_overlaps.specs.Regions.{copies_overlap, regions_meet, image_copies_overlap}
use Rattle.vk_rules.specs.Inner.Overlapping.{rows_overlap}
use Rattle.vk_history.specs.PointViews.{past}
use Rattle.vk_rules.proofs.Writing.Overlaps.{copy_overlaps, image_copy_overlaps, clear_overlaps, copy_in_overlaps, copy_out_overlaps}
use Rattle.vk_rules.proofs.overlapping.overlaps.Goals as goal

pub returns-in-Copy : goal.returns-in-Copy
returns-in-Copy c =
    let a = c.in-Copy in
    rw a.is (IfOk-weaker c.copies_overlap.result _ _ (λ found e. e ∙ ap (copies_overlap a.source a.destination) c.as_slice.ensures ∙ copy_overlaps (past c.args.history.now) a.source a.destination a.regions) c.copies_overlap.ensures)

pub returns-in-Clear : goal.returns-in-Clear
returns-in-Clear c =
    let a = c.in-Clear in
    rw a.is (IfOk-weaker c.ranges_overlap.result _ _ (λ found e. e ∙ ap (some_pair subresources_meet) c.as_slice-in-Clear.ensures ∙ clear_overlaps (past c.args.history.now) a.image a.layout a.color a.ranges) c.ranges_overlap.ensures)

pub returns-in-CopyIn : goal.returns-in-CopyIn
returns-in-CopyIn c =
    let a = c.in-CopyIn in
    rw a.is (IfOk-weaker c.regions_overlap.result _ _ (λ found e. e ∙ ap (some_pair regions_meet) c.as_slice-in-CopyIn.ensures ∙ copy_in_overlaps (past c.args.history.now) a.buffer a.image a.layout a.regions) c.regions_overlap.ensures)

pub returns-in-CopyOut : goal.returns-in-CopyOut
returns-in-CopyOut c =
    let a = c.in-CopyOut in
    rw a.is (IfOk-weaker c.image_rows_overlap.result _ _ (λ found e. e ∙ ap (rows_overlap (past c.args.history.now) a.image) c.as_slice-in-CopyOut.ensures ∙ copy_out_overlaps (past c.args.history.now) a.image a.layout a.buffer a.regions) c.image_rows_overlap.ensures)

pub returns-in-CopyImage : goal.returns-in-CopyImage
returns-in-CopyImage c =
    let a = c.in-CopyImage in
    rw a.is (IfOk-weaker c.image_copies_overlap.result _ _ (λ found e. e ∙ ap (image_copies_overlap a.source a.destination) c.as_slice-in-CopyImage.ensures ∙ image_copy_overlaps (past c.args.history.now) a.source a.source_layout a.destination a.destination_layout a.regions) c.image_copies_overlap.ensures)
