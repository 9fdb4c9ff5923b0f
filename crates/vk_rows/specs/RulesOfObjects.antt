-- A broken trace and its corrected trace for each rule from NEW_ID to ALIASED.
use Rattle.vk_model.specs.declared.rule.Rule.TheVariants as rule
use Rattle.vk_model.specs.declared.rule.At.TheVariants as at
use Rattle.vk_rows.specs.Claims.{BreaksOnly, BreaksNothing}
use Rattle.vk_rows.specs.TracesOfObjects as trace

-- A broken trace and its corrected trace for each rule from NEW_ID to ALIASED: the one breaks just that rule at one point, the other breaks nothing.
pub record RulesOfObjects : Type 0 where
  pub new_id : BreaksOnly trace.new_id (at.Entry 1) rule.NewId
  pub new_id_corrected : BreaksNothing trace.new_id_corrected
  pub live_id : BreaksOnly trace.live_id (at.Entry 0) rule.LiveId
  pub live_id_corrected : BreaksNothing trace.live_id_corrected
  pub queue : BreaksOnly trace.queue (at.Entry 0) rule.Queue
  pub queue_corrected : BreaksNothing trace.queue_corrected
  pub queue_kind : BreaksOnly trace.queue_kind (at.Command 1 0 0) rule.QueueKind
  pub queue_kind_corrected : BreaksNothing trace.queue_kind_corrected
  pub size : BreaksOnly trace.size (at.Entry 0) rule.Size
  pub size_corrected : BreaksNothing trace.size_corrected
  pub usage : BreaksOnly trace.usage (at.Entry 0) rule.Usage
  pub usage_corrected : BreaksNothing trace.usage_corrected
  pub memory_type : BreaksOnly trace.memory_type (at.Entry 0) rule.MemoryType
  pub memory_type_corrected : BreaksNothing trace.memory_type_corrected
  pub memory_size : BreaksOnly trace.memory_size (at.Entry 0) rule.MemorySize
  pub memory_size_corrected : BreaksNothing trace.memory_size_corrected
  pub pool_size : BreaksOnly trace.pool_size (at.Entry 1) rule.PoolSize
  pub pool_size_corrected : BreaksNothing trace.pool_size_corrected
  pub bind_range : BreaksOnly trace.bind_range (at.Entry 1) rule.BindRange
  pub bind_range_corrected : BreaksNothing trace.bind_range_corrected
  pub bind_align : BreaksOnly trace.bind_align (at.Entry 1) rule.BindAlign
  pub bind_align_corrected : BreaksNothing trace.bind_align_corrected
  pub aliased : BreaksOnly trace.aliased (at.Entry 2) rule.Aliased
  pub aliased_corrected : BreaksNothing trace.aliased_corrected
