-- A broken trace and its corrected trace for each rule from EVENT_STATE to WAIT_NEVER.
use Rattle.std.specs.Prelude.{◌≡◌, false}
use Rattle.vk_model.specs.declared.rule.Rule.TheVariants as rule
use Rattle.vk_model.specs.declared.rule.At.TheVariants as at
use Rattle.vk_model.specs.Trace.Point.{Past, Point}
use Rattle.vk_model.specs.Rules.Table.{breaks}
use Rattle.vk_rows.specs.Claims.{BreaksOnly, BreaksNothing}
use Rattle.vk_rows.specs.TracesOfOrder as trace

-- A broken trace and its corrected trace for each rule from EVENT_STATE to WAIT_NEVER: the one breaks just that rule at one point, the other breaks nothing. Nothing breaks WAIT_BEFORE_SIGNAL.
pub record RulesOfOrder : Type 0 where
  pub event_state : BreaksOnly trace.event_state (at.Command 1 0 1) rule.EventState
  pub event_state_corrected : BreaksNothing trace.event_state_corrected
  pub event_dependency : BreaksOnly trace.event_dependency (at.Command 1 0 1) rule.EventDependency
  pub event_dependency_corrected : BreaksNothing trace.event_dependency_corrected
  pub signal_value : BreaksOnly trace.signal_value (at.Entry 1) rule.SignalValue
  pub signal_value_corrected : BreaksNothing trace.signal_value_corrected
  pub signal_order : BreaksOnly trace.signal_order (at.Entry 2) rule.SignalOrder
  pub signal_order_corrected : BreaksNothing trace.signal_order_corrected
  -- No point breaks WAIT_BEFORE_SIGNAL: a batch that waits for a value that nobody has signaled isn't started.
  pub wait_before_signal : (past : Past) (p : Point) → breaks rule.WaitBeforeSignal past p ≡ false
  pub wait_before_signal_waits : BreaksNothing trace.wait_before_signal_waits
  pub wait_never : BreaksOnly trace.wait_never (at.Entry 1) rule.WaitNever
  pub wait_never_corrected : BreaksNothing trace.wait_never_corrected
