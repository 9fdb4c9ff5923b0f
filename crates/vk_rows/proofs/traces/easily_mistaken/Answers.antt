use Rattle.std.specs.Prelude.{refl}
use Rattle.vk_rows.specs.Claims.{on_rows}
use Rattle.vk_rows.proofs.traces.easily_mistaken.Goals as goal

pub returns : goal.returns
unfolding on_rows
returns c = record {
  acquired_and_released = (refl, refl);
  released_and_acquired = refl;
  all_memory_names_nothing = (refl, refl);
  buffer_element_names_it = refl;
  made_before_the_start = refl;
  made_before_the_submit = (refl, refl);
  waiting_names_what_comes = refl;
  waiting_names_another = (refl, refl);
  acquire_alone = refl;
  acquire_with_dependency = (refl, refl);
  release_alone = refl;
  no_release = (refl, refl);
  used_after_release = refl;
  used_before_release = (refl, refl);
  release_of_another_family = refl;
  release_of_the_family = (refl, refl);
  layout_after_loss = (refl, refl);
  other_layout_after_loss = refl;
  mapped_twice_unmapped_once = (refl, refl);
  mapped_twice_unmapped_twice = refl;
  page_of_one_kind = (refl, refl);
  page_of_two_kinds = refl;
  requirement_past_the_end = refl;
  requirement_inside = (refl, refl);
  row_length_of_the_region = (refl, refl);
  row_length_past_the_end = refl;
}
