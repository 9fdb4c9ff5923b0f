use Rattle.std.specs.Prelude.{refl}
use Rattle.vk_rows.specs.Claims.{on_rows}
use Rattle.vk_rows.proofs.traces.rules_of_access.Goals as goal

pub returns : goal.returns
unfolding on_rows
returns c = record {
  map_state = refl;
  map_state_corrected = refl;
  host_visible = refl;
  host_visible_corrected = refl;
  pool_kind = refl;
  pool_kind_corrected = refl;
  pass_state = refl;
  pass_state_corrected = refl;
  pass_busy = refl;
  pass_busy_corrected = refl;
  pass_write = refl;
  pass_write_corrected = refl;
  hazard_war = refl;
  hazard_war_corrected = refl;
  hazard_raw = refl;
  hazard_raw_corrected = refl;
  hazard_waw = refl;
  hazard_waw_corrected = refl;
  in_use = refl;
  in_use_corrected = refl;
  read_undefined = refl;
  read_undefined_corrected = refl;
}
