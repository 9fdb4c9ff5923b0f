use Rattle.std.specs.Prelude.{refl}
use Rattle.vk_rows.specs.Claims.{on_rows}
use Rattle.vk_rows.proofs.traces.objects.Goals as goal

pub returns : goal.returns
unfolding on_rows
returns c = record {
  same_id = refl;
  three_faults = refl;
  two_faults = refl;
  one_fault = refl;
  first_point = refl;
  whole_heap = (refl, refl);
  off_atom = refl;
  on_atom = (refl, refl);
  past_memory = refl;
  mapped_twice = refl;
  freed_in_use = refl;
  shared_page = refl;
  next_page = (refl, refl);
  two_memories = (refl, refl);
  memory_too_large = refl;
  over_half_a_block = refl;
  half_a_block = (refl, refl);
  pool_in_use = refl;
  upper_of_two_blocks = refl;
  linear_defragmentation = refl;
}
