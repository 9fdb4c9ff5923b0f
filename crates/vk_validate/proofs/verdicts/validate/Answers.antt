use Rattle.std.proofs.Common.{◌∙◌, ap, sym}
use Rattle.std.specs.Option.{option_map}
use Rattle.vk_queues.specs.PointViews.{past_of}
use Rattle.vk_validate.specs.Refusals.{refused_by}
use Rattle.vk_validate.proofs.Judging.Faults.{ordered, reports, accepts}
use Rattle.vk_validate.proofs.verdicts.validate.Goals as goal

pub refusal_of-requires : goal.refusal_of-requires
refusal_of-requires c = ordered c.args.entries.now _ (ap past_of c.as_slice.ensures.value ∙ c.in_ok-points.ensures.order)

pub returns-in-Some-clause-exact : goal.returns-in-Some-clause-exact
returns-in-Some-clause-exact c = sym (ap (option_map refused_by) c.in-Some.is) ∙ reports c.args.entries.now _ (ap past_of c.as_slice.ensures.value ∙ c.in_ok-points.ensures.order) _ c.in_ok-refusal.ensures.exact

pub invariant_of-result : goal.invariant_of-result
invariant_of-result c = accepts c.args.entries.now _ (ap past_of c.as_slice.ensures.value ∙ c.in_ok-points.ensures.order) _ c.in_ok-refusal.ensures.exact (ap (option_map refused_by) c.in-None.is)

pub returns-clause-exact : goal.returns-clause-exact
returns-clause-exact c = sym (ap (option_map refused_by) c.in-None.is) ∙ reports c.args.entries.now _ (ap past_of c.as_slice.ensures.value ∙ c.in_ok-points.ensures.order) _ c.in_ok-refusal.ensures.exact
