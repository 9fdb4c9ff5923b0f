use Rattle.std.proofs.Common.{refl}
use Rattle.vk_hazards.proofs.past.Past.fact.Goals as goal

pub returns : goal.returns
returns c = λ x y pair. record {
  hazard = refl;
  earlier = c.placed.ensures x pair.earlier pair.earlier_number;
  later = c.placed-2.ensures y pair.later pair.later_number;
  byte = refl;
  ordered = c.is_ordered.ensures x y pair;
}
