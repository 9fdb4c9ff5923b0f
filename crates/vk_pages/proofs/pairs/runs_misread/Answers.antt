use Rattle.std.proofs.Common.{refl}
use Rattle.serde_json.proofs.OnLiterals.{serde_json_on_literals}
use Rattle.hex.proofs.OnLiterals.{hex_on_literals}
use Rattle.vk_trace.specs.Members.{bytes_value, word_and_members, each_member, list_of, u32_value}
use Rattle.vk_trace.specs.Trace.{copy_region, length_or_whole, dependency_value, buffer_element, subresource_range, image_element, buffer_image_region, image_region, color_value, command_rows, command_value, semaphore_submit, batch_value, semaphore_value, place_rows, place_value, sharing_value, format_value, tiling_value, algorithm_value, entry_rows, entry_value}
use Rattle.vk_pages.proofs.pairs.runs_misread.Goals as goal

pub returns : goal.returns
unfolding serde_json_on_literals hex_on_literals copy_region bytes_value length_or_whole dependency_value buffer_element subresource_range image_element buffer_image_region image_region color_value command_rows command_value semaphore_submit batch_value semaphore_value place_rows place_value sharing_value format_value tiling_value algorithm_value entry_rows entry_value word_and_members each_member list_of u32_value
returns c = record {
  move_over_a_limit = refl;
  move_over_a_limit_corrected = refl;
  target_of_a_kept_move = refl;
  target_of_a_kept_move_corrected = refl;
  alignment_of_cached_memory = refl;
  alignment_of_cached_memory_corrected = refl;
  pieces_before_parts = refl;
  copies_after_a_pass = refl;
  invalidated_and_clean = refl;
}
