use Rattle.std.specs.Prelude.{refl}
use Rattle.vk_rows.specs.Claims.{on_rows}
use Rattle.vk_rows.proofs.traces.images.Goals as goal

pub returns : goal.returns
unfolding on_rows
returns c = record {
  partial_tiles = (refl, refl);
  cleared_then_discarded = refl;
  cleared = (refl, refl);
  wrong_old_layout = refl;
  equal_layouts = refl;
  clear_undefined = refl;
  clear_on_transfer_queue = refl;
  image_to_image = (refl, refl);
  other_texels = refl;
}
