-- What the texts on the page of worked pairs mean, for each rule from NEW_ID to ALIASED.
use Rattle.std.specs.Prelude.{◌≡◌, codes, Some}
use Rattle.vk_trace.specs.TextExamples.{meant_by}
use Rattle.vk_rows.specs.TracesOfObjects as trace

-- Each text for each rule from NEW_ID to ALIASED means the trace of which it is proved what it breaks.
pub record ObjectsMean : Type 0 where
  pub new_id : meant_by (codes "[[\"semaphore\",1,0],[\"event\",1]]") ≡ Some trace.new_id
  pub new_id_corrected : meant_by (codes "[[\"semaphore\",1,0],[\"event\",2]]") ≡ Some trace.new_id_corrected
  pub live_id : meant_by (codes "[[\"wait\",[[1,1]]]]") ≡ Some trace.live_id
  pub live_id_corrected : meant_by (codes "[[\"semaphore\",1,1],[\"wait\",[[1,1]]]]") ≡ Some trace.live_id_corrected
  pub queue : meant_by (codes "[[\"submit\",4,[]]]") ≡ Some trace.queue
  pub queue_corrected : meant_by (codes "[[\"submit\",3,[]]]") ≡ Some trace.queue_corrected
  pub queue_kind : meant_by (codes "[[\"event\",1],[\"submit\",2,[[[],[[\"set\",1,[]]],[]]]]]") ≡ Some trace.queue_kind
  pub queue_kind_corrected : meant_by (codes "[[\"event\",1],[\"submit\",1,[[[],[[\"set\",1,[]]],[]]]]]") ≡ Some trace.queue_kind_corrected
  pub size : meant_by (codes "[[\"buffer\",1,0,3,\"exclusive\",[\"dedicated\",1]]]") ≡ Some trace.size
  pub size_corrected : meant_by (codes "[[\"buffer\",1,1,3,\"exclusive\",[\"dedicated\",1]]]") ≡ Some trace.size_corrected
  pub usage : meant_by (codes "[[\"buffer\",1,16,0,\"exclusive\",[\"dedicated\",1]]]") ≡ Some trace.usage
  pub usage_corrected : meant_by (codes "[[\"buffer\",1,16,1,\"exclusive\",[\"dedicated\",1]]]") ≡ Some trace.usage_corrected
  pub memory_type : meant_by (codes "[[\"image\",1,\"R8_UINT\",8,8,1,1,\"optimal\",3,\"exclusive\",[\"dedicated\",1]]]") ≡ Some trace.memory_type
  pub memory_type_corrected : meant_by (codes "[[\"image\",1,\"R8_UINT\",8,8,1,1,\"optimal\",3,\"exclusive\",[\"dedicated\",0]]]") ≡ Some trace.memory_type_corrected
  pub memory_size : meant_by (codes "[[\"memory\",1,0,0]]") ≡ Some trace.memory_size
  pub memory_size_corrected : meant_by (codes "[[\"memory\",1,0,1]]") ≡ Some trace.memory_size_corrected
  pub pool_size : meant_by (codes "[[\"pool\",1,\"tlsf\",1,4096,2],[\"buffer\",2,2064,3,\"exclusive\",[\"pool\",1]]]") ≡ Some trace.pool_size
  pub pool_size_corrected : meant_by (codes "[[\"pool\",1,\"tlsf\",1,4096,2],[\"buffer\",2,2048,3,\"exclusive\",[\"pool\",1]]]") ≡ Some trace.pool_size_corrected
  pub bind_range : meant_by (codes "[[\"memory\",1,1,64],[\"buffer\",2,16,3,\"exclusive\",[\"memory\",1,64]]]") ≡ Some trace.bind_range
  pub bind_range_corrected : meant_by (codes "[[\"memory\",1,1,64],[\"buffer\",2,16,3,\"exclusive\",[\"memory\",1,48]]]") ≡ Some trace.bind_range_corrected
  pub bind_align : meant_by (codes "[[\"memory\",1,1,64],[\"buffer\",2,16,3,\"exclusive\",[\"memory\",1,8]]]") ≡ Some trace.bind_align
  pub bind_align_corrected : meant_by (codes "[[\"memory\",1,1,64],[\"buffer\",2,16,3,\"exclusive\",[\"memory\",1,16]]]") ≡ Some trace.bind_align_corrected
  pub aliased : meant_by (codes "[[\"memory\",1,1,64],[\"buffer\",2,16,3,\"exclusive\",[\"memory\",1,0]],[\"buffer\",3,16,3,\"exclusive\",[\"memory\",1,0]]]") ≡ Some trace.aliased
  pub aliased_corrected : meant_by (codes "[[\"memory\",1,1,64],[\"buffer\",2,16,3,\"exclusive\",[\"memory\",1,0]],[\"buffer\",3,16,3,\"exclusive\",[\"memory\",1,16]]]") ≡ Some trace.aliased_corrected
