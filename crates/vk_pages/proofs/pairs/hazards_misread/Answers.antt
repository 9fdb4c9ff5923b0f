use Rattle.std.proofs.Common.{refl}
use Rattle.serde_json.proofs.OnLiterals.{serde_json_on_literals}
use Rattle.hex.proofs.OnLiterals.{hex_on_literals}
use Rattle.vk_trace.specs.Members.{bytes_value, word_and_members, each_member, list_of, u32_value}
use Rattle.vk_trace.specs.Trace.{copy_region, length_or_whole, dependency_value, buffer_element, subresource_range, image_element, buffer_image_region, image_region, color_value, command_rows, command_value, semaphore_submit, batch_value, semaphore_value, place_rows, place_value, sharing_value, format_value, tiling_value, algorithm_value, entry_rows, entry_value}
use Rattle.vk_pages.proofs.pairs.hazards_misread.Goals as goal

pub returns : goal.returns
unfolding serde_json_on_literals hex_on_literals copy_region bytes_value length_or_whole dependency_value buffer_element subresource_range image_element buffer_image_region image_region color_value command_rows command_value semaphore_submit batch_value semaphore_value place_rows place_value sharing_value format_value tiling_value algorithm_value entry_rows entry_value word_and_members each_member list_of u32_value
returns c = record {
  wait_that_the_initial_value_meets = refl;
  wait_that_the_initial_value_meets_corrected = refl;
  dependency_to_the_host_after_the_signal = refl;
  dependency_to_the_host_after_the_signal_corrected = refl;
  set_and_not_awaited = refl;
  set_and_not_awaited_corrected = refl;
  read_without_an_invalidation = refl;
  read_without_an_invalidation_corrected = refl;
  memory_read_between_fills = refl;
  memory_read_between_fills_corrected = refl;
  memory_read_before_a_write_of_the_host = refl;
  memory_read_before_a_write_of_the_host_corrected = refl;
  transition_of_a_release = refl;
  transition_of_a_release_corrected = refl;
  range_that_ends_with_an_atom = refl;
  range_that_ends_with_an_atom_corrected = refl;
}
