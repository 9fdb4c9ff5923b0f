use Rattle.std.specs.Prelude.{refl}
use Rattle.vk_rows.specs.Claims.{on_rows}
use Rattle.vk_rows.proofs.traces.pools.Goals as goal

pub returns : goal.returns
unfolding on_rows
returns c = record {
  holes = (refl, refl);
  defragmented = (refl, refl);
  one_kept_one_destroyed = (refl, refl);
  mapped_destroyed = refl;
  listed_twice = refl;
  unflushed_moves = (refl, refl);
  unflushed_lost = refl;
  ring = (refl, refl);
  ring_full = (refl, refl);
  double_stack = (refl, refl);
  two_blocks = (refl, refl);
  second_buffer = (refl, refl);
}
