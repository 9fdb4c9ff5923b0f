use Rattle.std.specs.Prelude.{refl}
use Rattle.vk_rows.specs.Claims.{on_rows}
use Rattle.vk_rows.proofs.facts.places.Goals as goal

pub returns : goal.returns
unfolding on_rows
returns c = record {
  first = refl;
  second = refl;
  third = refl;
  fourth = refl;
  fifth = refl;
  again = refl;
  next_page = refl;
  stack_start = refl;
  stack_next = refl;
  ring_start = refl;
  ring_next = refl;
  upper_end = refl;
  whole_pass = refl;
  byte_limit = refl;
  move_limit = refl;
}
