use Rattle.std.specs.Prelude.{refl}
use Rattle.vk_rows.specs.Claims.{on_rows}
use Rattle.vk_rows.proofs.traces.queues.Goals as goal

pub returns : goal.returns
unfolding on_rows
returns c = record {
  transferred = (refl, refl);
  not_transferred = refl;
  acquire_alone = refl;
  part_released = refl;
  other_elements = refl;
  equal_elements = (refl, refl);
  equal_reads = (refl, refl);
  never_set = refl;
  value_too_low = refl;
  greatest_value = (refl, refl);
  no_greater_value = refl;
  same_value_twice = refl;
  never_signaled = refl;
  signals_unordered = refl;
  signals_ordered = (refl, refl);
  no_such_queue = refl;
  last_queue = (refl, refl);
  wait_for_nothing = refl;
  greatest_initial_value = (refl, refl);
  empty_submit = (refl, refl);
}
