use Rattle.std.specs.Prelude.{refl}
use Rattle.vk_rows.specs.Claims.{on_rows}
use Rattle.vk_rows.proofs.traces.rules_of_commands.Goals as goal

pub returns : goal.returns
unfolding on_rows
returns c = record {
  range = refl;
  range_corrected = refl;
  align = refl;
  align_corrected = refl;
  overlap = refl;
  overlap_corrected = refl;
  format = refl;
  format_corrected = refl;
  subresource = refl;
  subresource_corrected = refl;
  stage = refl;
  stage_corrected = refl;
  layout = refl;
  layout_corrected = refl;
  old_layout = refl;
  old_layout_corrected = refl;
  owner_whole = refl;
  owner_whole_corrected = refl;
  owner_pair = refl;
  owner_pair_corrected = refl;
}
