use Rattle.std.proofs.Common.{rules, ap, ◌∙◌}
use Rattle.std.specs.List.{filter}
use Rattle.std.proofs.lemmas.Fn.{filter_same}
use Rattle.vk_overlaps.specs.Inner.Planes.{is_on}
use Rattle.vk_overlaps.proofs.planes.on_side.Goals as goal

pub returns : goal.returns
returns c = filter_same _ (is_on c.args.plane c.args.side) _ (λ x b f' k. search rules) _ _ c.retain.ensures.filtered ∙ ap (filter (is_on c.args.plane c.args.side)) c.in_ok-kept.ensures.items
