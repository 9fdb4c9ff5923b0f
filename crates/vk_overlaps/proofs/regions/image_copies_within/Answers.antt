use Rattle.std.proofs.Common.{◌≡◌, map, ap, ◌∙◌}
use Rattle.std.proofs.lemmas.Result.{IfOk-weaker}
use Rattle.vk_overlaps.specs.Extents.{parts_overlap}
use Rattle.vk_overlaps.specs.Regions.{image_copies_overlap}
use Rattle.vk_overlaps.specs.Inner.Places.{image_copy_written}
use Rattle.vk_overlaps.proofs.Places.{image_copies_both}
use Rattle.vk_overlaps.proofs.regions.image_copies_within.Goals as goal

pub returns : goal.returns
returns c =
    IfOk-weaker c.overlap.result (λ found. found ≡ parts_overlap c.as_slice.result.now c.as_slice-2.result.now) (λ found. found ≡ image_copies_overlap 0 0 c.args.regions.now)
    (λ found e. e ∙ ap (λ ws. parts_overlap ws c.as_slice-2.result.now) (c.as_slice.ensures.value ∙ c.in_ok-written.ensures)
    ∙ ap (parts_overlap (map image_copy_written c.args.regions.now)) (c.as_slice-2.ensures.value ∙ c.in_ok-read.ensures) ∙ image_copies_both c.args.regions.now)
    c.overlap.ensures
