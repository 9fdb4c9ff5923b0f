use Rattle.std.proofs.Common.{ℕ, Bor, ◌∙◌, sym, ap, option_map}
use Rattle.vk_model.specs.declared.resource.ImageInfo.{ImageInfo}
use Rattle.vk_history.specs.PointViews.{past}
use Rattle.vk_rules.specs.Subresources.{copies_at}
use Rattle.vk_rules.proofs.SpanLemmas.{of_image_each}
use Rattle.vk_rules.proofs.subresources.of_destination.Goals as goal

pub returns-clause-reported : goal.returns-clause-reported
returns-clause-reported c =
    of_image_each (past c.args.history.now) c.args.image_id c.in_ok-info.info.now (λ (s : ℕ). copies_at s c.args.image_id c.args.regions.now) c.outside_destinations.result
    (ap (option_map (λ (x : Bor ImageInfo). x.now)) (sym c.in_ok-info.was) ∙ c.image.ensures) c.outside_destinations.ensures.reported
