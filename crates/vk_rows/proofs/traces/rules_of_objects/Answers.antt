use Rattle.std.specs.Prelude.{refl}
use Rattle.vk_rows.specs.Claims.{on_rows}
use Rattle.vk_rows.proofs.traces.rules_of_objects.Goals as goal

pub returns : goal.returns
unfolding on_rows
returns c = record {
  new_id = refl;
  new_id_corrected = refl;
  live_id = refl;
  live_id_corrected = refl;
  queue = refl;
  queue_corrected = refl;
  queue_kind = refl;
  queue_kind_corrected = refl;
  size = refl;
  size_corrected = refl;
  usage = refl;
  usage_corrected = refl;
  memory_type = refl;
  memory_type_corrected = refl;
  memory_size = refl;
  memory_size_corrected = refl;
  pool_size = refl;
  pool_size_corrected = refl;
  bind_range = refl;
  bind_range_corrected = refl;
  bind_align = refl;
  bind_align_corrected = refl;
  aliased = refl;
  aliased_corrected = refl;
}
