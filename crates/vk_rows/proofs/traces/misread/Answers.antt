use Rattle.std.specs.Prelude.{refl}
use Rattle.vk_rows.specs.Claims.{on_rows}
use Rattle.vk_rows.proofs.traces.misread.Goals as goal

pub returns : goal.returns
unfolding on_rows
returns c = record {
  kept_of_another_pool = refl;
  kept_of_another_pool_corrected = (refl, refl);
  fill_of_less_than_a_word = refl;
  fill_of_less_than_a_word_corrected = (refl, refl);
  levels_of_the_longest_side = refl;
  levels_of_the_longest_side_corrected = (refl, refl);
  offset_on_a_transfer_queue = refl;
  offset_on_a_transfer_queue_corrected = (refl, refl);
  host_in_a_wait = refl;
  host_in_a_wait_corrected = (refl, refl);
  host_in_a_signal = refl;
  host_in_a_signal_corrected = (refl, refl);
  acquired_in_another_layout = refl;
  acquired_in_another_layout_corrected = (refl, refl);
  release_of_a_concurrent_resource = refl;
  release_of_a_concurrent_resource_corrected = (refl, refl);
  set_on_another_queue = refl;
  set_on_another_queue_corrected = (refl, refl);
  destroyed_while_its_memory_is_mapped = refl;
  destroyed_while_its_memory_is_mapped_corrected = (refl, refl);
  passes_of_two_pools = refl;
  passes_of_two_pools_corrected = (refl, refl);
  ended_inside_its_pass = refl;
  ended_inside_its_pass_corrected = (refl, refl);
  dropped_while_defragmented = refl;
  dropped_while_defragmented_corrected = (refl, refl);
  acquired_inside_a_pass = refl;
  acquired_inside_a_pass_corrected = (refl, refl);
  wait_that_the_initial_value_meets = refl;
  wait_that_the_initial_value_meets_corrected = (refl, refl);
  dependency_to_the_host_after_the_signal = refl;
  dependency_to_the_host_after_the_signal_corrected = (refl, refl);
  set_and_not_awaited = refl;
  set_and_not_awaited_corrected = (refl, refl);
  read_without_an_invalidation = refl;
  read_without_an_invalidation_corrected = (refl, refl);
  memory_read_between_fills = refl;
  memory_read_between_fills_corrected = (refl, refl);
  memory_read_before_a_write_of_the_host = refl;
  memory_read_before_a_write_of_the_host_corrected = (refl, refl);
  transition_of_a_release = refl;
  transition_of_a_release_corrected = (refl, refl);
  range_that_ends_with_an_atom = refl;
  range_that_ends_with_an_atom_corrected = (refl, refl);
}
