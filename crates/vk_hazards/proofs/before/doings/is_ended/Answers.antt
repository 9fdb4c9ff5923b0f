use Rattle.std.proofs.Common.{◌≡◌, ◌∙◌, ap, refl, Option, Some, None, is_some}
use Rattle.std.specs.Option.{option_map}
use Rattle.vk_model.specs.declared.point.Point.{Point}
use Rattle.vk_model.specs.Trace.PointViews.{point_of}
use Rattle.vk_queues.specs.PointViews.{past_of}
use Rattle.vk_hazards.proofs.DoingLemmas.{ended_is}
use Rattle.vk_hazards.proofs.before.doings.is_ended.Goals as goal

mapped : (o : Option Point) → is_some o ≡ is_some (option_map point_of o)
mapped None = refl
mapped (Some p) = refl

pub returns : goal.returns
returns c = c.is_some.ensures ∙ mapped c.latest.result ∙ ap is_some c.latest.ensures ∙ ended_is (past_of c.args.points.now) c.args.id
