use Rattle.std.proofs.Common.{refl}
use Rattle.serde_json.proofs.OnLiterals.{serde_json_on_literals}
use Rattle.hex.proofs.OnLiterals.{hex_on_literals}
use Rattle.vk_trace.specs.Members.{bytes_value, word_and_members, each_member, list_of, u32_value}
use Rattle.vk_trace.specs.Trace.{copy_region, length_or_whole, dependency_value, buffer_element, subresource_range, image_element, buffer_image_region, image_region, color_value, command_rows, command_value, semaphore_submit, batch_value, semaphore_value, place_rows, place_value, sharing_value, format_value, tiling_value, algorithm_value, entry_rows, entry_value}
use Rattle.vk_pages.proofs.pairs.access.Goals as goal

pub returns : goal.returns
unfolding serde_json_on_literals hex_on_literals copy_region bytes_value length_or_whole dependency_value buffer_element subresource_range image_element buffer_image_region image_region color_value command_rows command_value semaphore_submit batch_value semaphore_value place_rows place_value sharing_value format_value tiling_value algorithm_value entry_rows entry_value word_and_members each_member list_of u32_value
returns c = record {
  map_state = refl;
  map_state_corrected = refl;
  host_visible = refl;
  host_visible_corrected = refl;
  pool_kind = refl;
  pool_kind_corrected = refl;
  pass_state = refl;
  pass_state_corrected = refl;
  pass_busy = refl;
  pass_busy_corrected = refl;
  pass_write = refl;
  pass_write_corrected = refl;
  hazard_war = refl;
  hazard_war_corrected = refl;
  hazard_raw = refl;
  hazard_raw_corrected = refl;
  hazard_waw = refl;
  hazard_waw_corrected = refl;
  in_use = refl;
  in_use_corrected = refl;
  read_undefined = refl;
  read_undefined_corrected = refl;
}
