use Rattle.std.proofs.Common.{◌≡◌, [], ap, sym, ◌∙◌}
use Rattle.std.proofs.lemmas.Result.{IfOk-weaker}
use Rattle.vk_model.specs.Basics.{some_pair}
use Rattle.vk_model.specs.World.Areas.{subresources_meet}
use Rattle.vk_overlaps.specs.Extents.{parts_overlap}
use Rattle.vk_overlaps.proofs.ListPairs.{too_few}
use Rattle.vk_overlaps.proofs.Places.{ranges_alone}
use Rattle.vk_overlaps.proofs.regions.ranges_overlap.Goals as goal

pub returns-then-ranges-lt2 : goal.returns-then-ranges-lt2
returns-then-ranges-lt2 c = sym (too_few subresources_meet c.args.ranges.now c.if-ranges-lt2.true)

pub returns : goal.returns
returns c =
    IfOk-weaker c.overlap.result (λ found. found ≡ parts_overlap c.as_slice.result.now []) (λ found. found ≡ some_pair subresources_meet c.args.ranges.now)
    (λ found e. e ∙ ap (λ ws. parts_overlap ws []) (c.as_slice.ensures.value ∙ c.in_ok-parts.ensures) ∙ ranges_alone c.args.ranges.now)
    c.overlap.ensures
