use Rattle.std.proofs.Common.{refl}
use Rattle.serde_json.proofs.OnLiterals.{serde_json_on_literals}
use Rattle.hex.proofs.OnLiterals.{hex_on_literals}
use Rattle.vk_trace.specs.Members.{bytes_value, word_and_members, each_member, list_of, u32_value}
use Rattle.vk_trace.specs.Trace.{copy_region, length_or_whole, dependency_value, buffer_element, subresource_range, image_element, buffer_image_region, image_region, color_value, command_rows, command_value, semaphore_submit, batch_value, semaphore_value, place_rows, place_value, sharing_value, format_value, tiling_value, algorithm_value, entry_rows, entry_value}
use Rattle.vk_pages.proofs.pairs.commands.Goals as goal

pub returns : goal.returns
unfolding serde_json_on_literals hex_on_literals copy_region bytes_value length_or_whole dependency_value buffer_element subresource_range image_element buffer_image_region image_region color_value command_rows command_value semaphore_submit batch_value semaphore_value place_rows place_value sharing_value format_value tiling_value algorithm_value entry_rows entry_value word_and_members each_member list_of u32_value
returns c = record {
  range = refl;
  range_corrected = refl;
  align = refl;
  align_corrected = refl;
  overlap = refl;
  overlap_corrected = refl;
  format = refl;
  format_corrected = refl;
  subresource = refl;
  subresource_corrected = refl;
  stage = refl;
  stage_corrected = refl;
  layout = refl;
  layout_corrected = refl;
  old_layout = refl;
  old_layout_corrected = refl;
  owner_whole = refl;
  owner_whole_corrected = refl;
  owner_pair = refl;
  owner_pair_corrected = refl;
}
