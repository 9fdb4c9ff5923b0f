use Rattle.std.specs.Prelude.{refl}
use Rattle.vk_rows.specs.Claims.{on_rows}
use Rattle.vk_rows.proofs.traces.ahead.Goals as goal

pub returns : goal.returns
unfolding on_rows
returns c = record {
  copy_inside_pass = (refl, refl);
  fill_inside_pass = refl;
  pass_ends_early = refl;
  copy_of_the_end = (refl, refl);
  mapped_inside_pass = refl;
  destroyed_inside_pass = refl;
  wait_ahead = (refl, refl);
  queue_held_back = refl;
  queue_released = (refl, refl);
  waiting_command = refl;
  never_started = (refl, refl);
  judged_when_started = refl;
  not_judged = (refl, refl);
  pass_of_a_later_id = refl;
  pass_of_another_id = (refl, refl);
}
