use Rattle.std.proofs.Common.{rules, ap, ◌∙◌}
use Rattle.std.specs.List.{filter}
use Rattle.std.proofs.lemmas.Fn.{filter_same}
use Rattle.vk_model.specs.Trace.Image.{texel}
use Rattle.vk_overlaps.specs.Inner.Rows.{rows_have}
use Rattle.vk_overlaps.proofs.rows.regions_near.Goals as goal

pub returns : goal.returns
returns c = filter_same _ (rows_have (texel c.args.format) c.args.bytes.start c.args.bytes.size) _ (λ x b f' k. search rules) _ _ c.retain.ensures.filtered ∙ ap (filter (rows_have (texel c.args.format) c.args.bytes.start c.args.bytes.size)) c.in_ok-near.ensures.items
