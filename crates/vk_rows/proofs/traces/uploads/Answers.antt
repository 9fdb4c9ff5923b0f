use Rattle.std.specs.Prelude.{refl}
use Rattle.vk_rows.specs.Claims.{on_rows}
use Rattle.vk_rows.proofs.traces.uploads.Goals as goal

pub returns : goal.returns
unfolding on_rows
returns c = record {
  nothing = (refl, refl);
  fill_and_read = (refl, refl);
  no_barrier = refl;
  destroyed_too_early = refl;
  filled_twice = refl;
  wrong_source_access = refl;
  two_fills = (refl, refl);
  fills_that_meet = refl;
  copy_within = (refl, refl);
  copy_onto_itself = refl;
  write_after_read = refl;
  fill_to_the_end = (refl, refl);
  unfilled_rest = refl;
  no_flush = refl;
  flushed = (refl, refl);
  lost_neighbour = (refl, refl);
  lost_byte = refl;
}
