use Rattle.std.specs.Prelude.{refl}
use Rattle.vk_rows.proofs.facts.linear_blocks.Goals as goal

pub returns : goal.returns
returns c = record {
  first = refl;
  second = refl;
  third = refl;
  fourth = refl;
  ring = refl;
  none_in_ring = refl;
  turned = refl;
  after_round = refl;
  behind = refl;
  upper_first = refl;
  lower_next = refl;
  stacks = refl;
  none_below = refl;
  none_above = refl;
  seen = refl;
}
