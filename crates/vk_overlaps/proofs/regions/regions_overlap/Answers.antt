use Rattle.std.proofs.Common.{◌≡◌, [], ap, sym, ◌∙◌}
use Rattle.std.proofs.lemmas.Result.{IfOk-weaker}
use Rattle.vk_model.specs.Basics.{some_pair}
use Rattle.vk_overlaps.specs.Regions.{regions_meet}
use Rattle.vk_overlaps.specs.Extents.{parts_overlap}
use Rattle.vk_overlaps.proofs.ListPairs.{too_few}
use Rattle.vk_overlaps.proofs.Places.{regions_alone}
use Rattle.vk_overlaps.proofs.regions.regions_overlap.Goals as goal

pub returns-then-regions-lt2 : goal.returns-then-regions-lt2
returns-then-regions-lt2 c = sym (too_few regions_meet c.args.regions.now c.if-regions-lt2.true)

pub returns : goal.returns
returns c =
    IfOk-weaker c.overlap.result (λ found. found ≡ parts_overlap c.as_slice.result.now []) (λ found. found ≡ some_pair regions_meet c.args.regions.now)
    (λ found e. e ∙ ap (λ ws. parts_overlap ws []) (c.as_slice.ensures.value ∙ c.in_ok-parts.ensures) ∙ regions_alone c.args.regions.now)
    c.overlap.ensures
