use Rattle.std.proofs.Common.{refl}
use Rattle.serde_json.proofs.OnLiterals.{serde_json_on_literals}
use Rattle.hex.proofs.OnLiterals.{hex_on_literals}
use Rattle.vk_trace.specs.Members.{bytes_value, word_and_members, each_member, list_of, u32_value}
use Rattle.vk_trace.specs.Trace.{copy_region, length_or_whole, dependency_value, buffer_element, subresource_range, image_element, buffer_image_region, image_region, color_value, command_rows, command_value, semaphore_submit, batch_value, semaphore_value, place_rows, place_value, sharing_value, format_value, tiling_value, algorithm_value, entry_rows, entry_value}
use Rattle.vk_pages.proofs.pairs.misread.Goals as goal

pub returns : goal.returns
unfolding serde_json_on_literals hex_on_literals copy_region bytes_value length_or_whole dependency_value buffer_element subresource_range image_element buffer_image_region image_region color_value command_rows command_value semaphore_submit batch_value semaphore_value place_rows place_value sharing_value format_value tiling_value algorithm_value entry_rows entry_value word_and_members each_member list_of u32_value
returns c = record {
  kept_of_another_pool = refl;
  kept_of_another_pool_corrected = refl;
  fill_of_less_than_a_word = refl;
  fill_of_less_than_a_word_corrected = refl;
  levels_of_the_longest_side = refl;
  levels_of_the_longest_side_corrected = refl;
  offset_on_a_transfer_queue = refl;
  offset_on_a_transfer_queue_corrected = refl;
  host_in_a_wait = refl;
  host_in_a_wait_corrected = refl;
  host_in_a_signal = refl;
  host_in_a_signal_corrected = refl;
  acquired_in_another_layout = refl;
  acquired_in_another_layout_corrected = refl;
  release_of_a_concurrent_resource = refl;
  release_of_a_concurrent_resource_corrected = refl;
  set_on_another_queue = refl;
  set_on_another_queue_corrected = refl;
  destroyed_while_its_memory_is_mapped = refl;
  destroyed_while_its_memory_is_mapped_corrected = refl;
  passes_of_two_pools = refl;
  passes_of_two_pools_corrected = refl;
  ended_inside_its_pass = refl;
  ended_inside_its_pass_corrected = refl;
  dropped_while_defragmented = refl;
  dropped_while_defragmented_corrected = refl;
  acquired_inside_a_pass = refl;
  acquired_inside_a_pass_corrected = refl;
}
