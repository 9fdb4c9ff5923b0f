use Rattle.std.specs.Prelude.{refl}
use Rattle.vk_rows.specs.Claims.{on_rows}
use Rattle.vk_rows.proofs.facts.work.Goals as goal

pub returns : goal.returns
unfolding on_rows
returns c = record {
  points = refl;
  asked_size = refl;
  asked_align = refl;
  moves_to_end = refl;
  no_memory_dependency = refl;
  fill_pieces = refl;
  level_0 = refl;
  level_1 = refl;
  tiled_size = refl;
  linear_size = refl;
  linear_pitch = refl;
  fill_before_read = refl;
  read_seen_fill = refl;
  still_before = refl;
  not_seen = refl;
  fill_to_signal = refl;
  at_first = refl;
  then_the_second = refl;
  asked_once = refl;
  in_order = refl;
  last_first = refl;
  runs_in_order = (_, (refl, refl, refl), (_, (refl, refl, refl), (_, (refl, refl, refl), (_, (refl, refl), (_, (refl, refl), (_, (refl, refl, refl), refl))))));
  runs_last_first = (_, (refl, refl, refl), (_, (refl, refl, refl), (_, (refl, refl, refl), (_, (refl, refl), (_, (refl, refl), (_, (refl, refl, refl), refl))))));
  atoms_touched = refl;
  no_atom_touched = refl;
  picked_then_stopped = refl;
  stopped_at_once = refl;
  asked_of_three = refl;
  copied_in_order = (_, (_, (refl, refl, refl), (_, (refl, refl, refl), (_, (refl, refl, refl), (_, (refl, refl, refl), (_, (refl, refl), (_, (refl, refl), (_, (refl, refl, refl), refl))))))));
  copied_last_first = (_, (_, (refl, refl, refl), (_, (refl, refl, refl), (_, (refl, refl, refl), (_, (refl, refl, refl), (_, (refl, refl), (_, (refl, refl), (_, (refl, refl, refl), refl))))))));
  parts_offered = refl;
  asked_of_parts = refl;
}
