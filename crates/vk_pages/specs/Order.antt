-- What the texts on the page of worked pairs mean, for each rule from EVENT_STATE to WAIT_NEVER.
use Rattle.std.specs.Prelude.{◌≡◌, codes, Some}
use Rattle.vk_trace.specs.TextExamples.{meant_by}
use Rattle.vk_rows.specs.TracesOfOrder as trace

-- Each text for each rule from EVENT_STATE to WAIT_NEVER means the trace of which it is proved what it breaks.
pub record OrderMean : Type 0 where
  pub event_state : meant_by (codes "[[\"event\",1],[\"submit\",0,[[[],[[\"set\",1,[]],[\"set\",1,[]]],[]]]]]") ≡ Some trace.event_state
  pub event_state_corrected : meant_by (codes "[[\"event\",1],[\"submit\",0,[[[],[[\"set\",1,[]],[\"await\",1,[]]],[]]]]]") ≡ Some trace.event_state_corrected
  pub event_dependency : meant_by (codes "[[\"event\",1],[\"submit\",0,[[[],[[\"set\",1,[]],[\"await\",1,[[4096,4096,4096,6144]]]],[]]]]]") ≡ Some trace.event_dependency
  pub event_dependency_corrected : meant_by (codes "[[\"event\",1],[\"submit\",0,[[[],[[\"set\",1,[[4096,4096,4096,6144]]],[\"await\",1,[[4096,4096,4096,6144]]]],[]]]]]") ≡ Some trace.event_dependency_corrected
  pub signal_value : meant_by (codes "[[\"semaphore\",1,5],[\"signal\",1,5]]") ≡ Some trace.signal_value
  pub signal_value_corrected : meant_by (codes "[[\"semaphore\",1,5],[\"signal\",1,6]]") ≡ Some trace.signal_value_corrected
  pub signal_order : meant_by (codes "[[\"semaphore\",1,0],[\"submit\",0,[[[],[],[[1,1,65536]]]]],[\"signal\",1,2]]") ≡ Some trace.signal_order
  pub signal_order_corrected : meant_by (codes "[[\"semaphore\",1,0],[\"submit\",0,[[[],[],[[1,1,65536]]]]],[\"wait\",[[1,1]]],[\"signal\",1,2]]") ≡ Some trace.signal_order_corrected
  pub wait_before_signal_waits : meant_by (codes "[[\"semaphore\",1,0],[\"submit\",0,[[[[1,1,65536]],[],[]]]]]") ≡ Some trace.wait_before_signal_waits
  pub wait_never : meant_by (codes "[[\"semaphore\",1,0],[\"wait\",[[1,1]]]]") ≡ Some trace.wait_never
  pub wait_never_corrected : meant_by (codes "[[\"semaphore\",1,0],[\"signal\",1,1],[\"wait\",[[1,1]]]]") ≡ Some trace.wait_never_corrected
