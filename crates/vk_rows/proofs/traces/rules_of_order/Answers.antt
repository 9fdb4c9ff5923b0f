use Rattle.std.specs.Prelude.{refl}
use Rattle.vk_rows.specs.Claims.{on_rows}
use Rattle.vk_rows.proofs.traces.rules_of_order.Goals as goal

pub returns : goal.returns
unfolding on_rows
returns c = record {
  event_state = refl;
  event_state_corrected = refl;
  event_dependency = refl;
  event_dependency_corrected = refl;
  signal_value = refl;
  signal_value_corrected = refl;
  signal_order = refl;
  signal_order_corrected = refl;
  wait_before_signal = λ past p. refl;
  wait_before_signal_waits = refl;
  wait_never = refl;
  wait_never_corrected = refl;
}
