use Rattle.std.proofs.Common.{refl}
use Rattle.serde_json.proofs.OnLiterals.{serde_json_on_literals}
use Rattle.hex.proofs.OnLiterals.{hex_on_literals}
use Rattle.vk_trace.specs.Members.{bytes_value, word_and_members, each_member, list_of, u32_value}
use Rattle.vk_trace.specs.Trace.{copy_region, length_or_whole, dependency_value, buffer_element, subresource_range, image_element, buffer_image_region, image_region, color_value, command_rows, command_value, semaphore_submit, batch_value, semaphore_value, place_rows, place_value, sharing_value, format_value, tiling_value, algorithm_value, entry_rows, entry_value}
use Rattle.vk_pages.proofs.pairs.objects.Goals as goal

pub returns : goal.returns
unfolding serde_json_on_literals hex_on_literals copy_region bytes_value length_or_whole dependency_value buffer_element subresource_range image_element buffer_image_region image_region color_value command_rows command_value semaphore_submit batch_value semaphore_value place_rows place_value sharing_value format_value tiling_value algorithm_value entry_rows entry_value word_and_members each_member list_of u32_value
returns c = record {
  new_id = refl;
  new_id_corrected = refl;
  live_id = refl;
  live_id_corrected = refl;
  queue = refl;
  queue_corrected = refl;
  queue_kind = refl;
  queue_kind_corrected = refl;
  size = refl;
  size_corrected = refl;
  usage = refl;
  usage_corrected = refl;
  memory_type = refl;
  memory_type_corrected = refl;
  memory_size = refl;
  memory_size_corrected = refl;
  pool_size = refl;
  pool_size_corrected = refl;
  bind_range = refl;
  bind_range_corrected = refl;
  bind_align = refl;
  bind_align_corrected = refl;
  aliased = refl;
  aliased_corrected = refl;
}
