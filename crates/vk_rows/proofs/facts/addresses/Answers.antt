use Rattle.std.specs.Prelude.{refl}
use Rattle.vk_rows.proofs.facts.addresses.Goals as goal

pub returns : goal.returns
returns c = record {
  in_first_tile = refl;
  in_second_tile = refl;
  tiled_layout = refl;
  in_row = refl;
  rows_layout = refl;
  in_second_layer = refl;
  in_second_level = refl;
  in_third_level = refl;
  second_level = refl;
  last_level = refl;
  whole_image = refl;
  after_rounding = refl;
  buffer_needs = refl;
  rows_need = refl;
  tiles_need = refl;
}
