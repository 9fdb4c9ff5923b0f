use Rattle.std.proofs.Common.{◌∙◌, sym, ap}
use Rattle.std.specs.Prelude.{option_and_then}
use Rattle.std.specs.Option.{option_map}
use Rattle.vk_model.specs.Trace.Point.{Point, host_of}
use Rattle.vk_model.specs.Trace.PointViews.{point_of}
use Rattle.vk_hazards.proofs.CreatorLemmas.{made_is}
use Rattle.vk_hazards.proofs.before.creators.Creators.made.Goals as goal

pub returns-in-Some : goal.returns-in-Some
returns-in-Some c = λ past are. c.entry_of.ensures ∙ ap (option_and_then (λ (p : Point). host_of p.action)) (ap (option_map point_of) (sym c.in-Some.is) ∙ c.creator.ensures past are) ∙ made_is past c.args.id

pub returns-in-None : goal.returns-in-None
returns-in-None c = λ past are. ap (option_and_then (λ (p : Point). host_of p.action)) (ap (option_map point_of) (sym c.in-None.is) ∙ c.creator.ensures past are) ∙ made_is past c.args.id
