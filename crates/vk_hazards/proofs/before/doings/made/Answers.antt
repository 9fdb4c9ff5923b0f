use Rattle.std.proofs.Common.{◌∙◌, sym, ap}
use Rattle.std.specs.Prelude.{option_and_then}
use Rattle.std.specs.Option.{option_map}
use Rattle.vk_model.specs.Trace.Point.{Point, host_of}
use Rattle.vk_model.specs.Trace.PointViews.{point_of}
use Rattle.vk_queues.specs.PointViews.{past_of}
use Rattle.vk_hazards.proofs.CreatorLemmas.{made_is}
use Rattle.vk_hazards.proofs.before.doings.made.Goals as goal

pub returns-in-Some : goal.returns-in-Some
returns-in-Some c = c.entry_of.ensures ∙ ap (option_and_then (λ (p : Point). host_of p.action)) (ap (option_map point_of) (sym c.in-Some.is) ∙ c.latest.ensures) ∙ made_is (past_of c.args.points.now) c.args.id

pub returns-in-None : goal.returns-in-None
returns-in-None c = ap (option_and_then (λ (p : Point). host_of p.action)) (ap (option_map point_of) (sym c.in-None.is) ∙ c.latest.ensures) ∙ made_is (past_of c.args.points.now) c.args.id
