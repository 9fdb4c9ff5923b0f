use Rattle.std.proofs.Common.{ℕ, Bor, ◌∙◌, sym, ap, option_map}
use Rattle.vk_model.specs.declared.resource.ImageInfo.{ImageInfo}
use Rattle.vk_history.specs.PointViews.{past}
use Rattle.vk_rules.specs.Subresources.{copies_at}
use Rattle.vk_rules.proofs.SpanLemmas.{of_image_each}
use Rattle.vk_rules.proofs.subresources.of_source.Goals as goal

pub returns-clause-reported : goal.returns-clause-reported
returns-clause-reported c =
    of_image_each (past c.args.history.now) c.args.image_id c.in_ok-info.info.now (λ (d : ℕ). copies_at c.args.image_id d c.args.regions.now) c.outside_sources.result
    (ap (option_map (λ (x : Bor ImageInfo). x.now)) (sym c.in_ok-info.was) ∙ c.image.ensures) c.outside_sources.ensures.reported
