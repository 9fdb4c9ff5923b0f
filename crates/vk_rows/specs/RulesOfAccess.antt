-- A broken trace and its corrected trace for each rule from MAP_STATE to READ_UNDEFINED.
use Rattle.vk_model.specs.declared.rule.Rule.TheVariants as rule
use Rattle.vk_model.specs.declared.rule.At.TheVariants as at
use Rattle.vk_rows.specs.Claims.{BreaksOnly, BreaksNothing}
use Rattle.vk_rows.specs.TracesOfAccess as trace

-- A broken trace and its corrected trace for each rule from MAP_STATE to READ_UNDEFINED: the one breaks just that rule at one point, the other breaks nothing.
pub record RulesOfAccess : Type 0 where
  pub map_state : BreaksOnly trace.map_state (at.Entry 1) rule.MapState
  pub map_state_corrected : BreaksNothing trace.map_state_corrected
  pub host_visible : BreaksOnly trace.host_visible (at.Entry 1) rule.HostVisible
  pub host_visible_corrected : BreaksNothing trace.host_visible_corrected
  pub pool_kind : BreaksOnly trace.pool_kind (at.Entry 1) rule.PoolKind
  pub pool_kind_corrected : BreaksNothing trace.pool_kind_corrected
  pub pass_state : BreaksOnly trace.pass_state (at.Entry 2) rule.PassState
  pub pass_state_corrected : BreaksNothing trace.pass_state_corrected
  pub pass_busy : BreaksOnly trace.pass_busy (at.Entry 5) rule.PassBusy
  pub pass_busy_corrected : BreaksNothing trace.pass_busy_corrected
  pub pass_write : BreaksOnly trace.pass_write (at.Entry 5) rule.PassWrite
  pub pass_write_corrected : BreaksNothing trace.pass_write_corrected
  pub hazard_war : BreaksOnly trace.hazard_war (at.Command 2 0 1) rule.HazardWar
  pub hazard_war_corrected : BreaksNothing trace.hazard_war_corrected
  pub hazard_raw : BreaksOnly trace.hazard_raw (at.Entry 5) rule.HazardRaw
  pub hazard_raw_corrected : BreaksNothing trace.hazard_raw_corrected
  pub hazard_waw : BreaksOnly trace.hazard_waw (at.Command 1 0 1) rule.HazardWaw
  pub hazard_waw_corrected : BreaksNothing trace.hazard_waw_corrected
  pub in_use : BreaksOnly trace.in_use (at.Entry 3) rule.InUse
  pub in_use_corrected : BreaksNothing trace.in_use_corrected
  pub read_undefined : BreaksOnly trace.read_undefined (at.Entry 2) rule.ReadUndefined
  pub read_undefined_corrected : BreaksNothing trace.read_undefined_corrected
