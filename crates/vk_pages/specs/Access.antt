-- What the texts on the page of worked pairs mean, for each rule from MAP_STATE to READ_UNDEFINED.
use Rattle.std.specs.Prelude.{◌≡◌, codes, Some}
use Rattle.vk_trace.specs.TextExamples.{meant_by}
use Rattle.vk_rows.specs.TracesOfAccess as trace

-- Each text for each rule from MAP_STATE to READ_UNDEFINED means the trace of which it is proved what it breaks.
pub record AccessMean : Type 0 where
  pub map_state : meant_by (codes "[[\"buffer\",1,16,3,\"exclusive\",[\"dedicated\",1]],[\"unmap\",1]]") ≡ Some trace.map_state
  pub map_state_corrected : meant_by (codes "[[\"buffer\",1,16,3,\"exclusive\",[\"dedicated\",1]],[\"map\",1],[\"unmap\",1]]") ≡ Some trace.map_state_corrected
  pub host_visible : meant_by (codes "[[\"buffer\",1,16,3,\"exclusive\",[\"dedicated\",0]],[\"map\",1]]") ≡ Some trace.host_visible
  pub host_visible_corrected : meant_by (codes "[[\"buffer\",1,16,3,\"exclusive\",[\"dedicated\",1]],[\"map\",1]]") ≡ Some trace.host_visible_corrected
  pub pool_kind : meant_by (codes "[[\"pool\",1,\"linear\",1,4096,2],[\"buffer\",2,16,3,\"exclusive\",[\"pool_upper\",1]]]") ≡ Some trace.pool_kind
  pub pool_kind_corrected : meant_by (codes "[[\"pool\",1,\"linear\",1,4096,1],[\"buffer\",2,16,3,\"exclusive\",[\"pool_upper\",1]]]") ≡ Some trace.pool_kind_corrected
  pub pass_state : meant_by (codes "[[\"pool\",1,\"tlsf\",1,4096,2],[\"defrag\",2,1,0,0],[\"end_pass\",2,[],[]]]") ≡ Some trace.pass_state
  pub pass_state_corrected : meant_by (codes "[[\"pool\",1,\"tlsf\",1,4096,2],[\"defrag\",2,1,0,0],[\"pass\",2],[\"end_pass\",2,[],[]]]") ≡ Some trace.pass_state_corrected
  pub pass_busy : meant_by (codes "[[\"pool\",1,\"tlsf\",1,4096,2],[\"buffer\",2,16,3,\"exclusive\",[\"pool\",1]],[\"semaphore\",3,0],[\"defrag\",4,1,0,0],[\"submit\",0,[[[],[[\"fill\",2,0,16,7]],[[3,1,65536]]]]],[\"pass\",4]]") ≡ Some trace.pass_busy
  pub pass_busy_corrected : meant_by (codes "[[\"pool\",1,\"tlsf\",1,4096,2],[\"buffer\",2,16,3,\"exclusive\",[\"pool\",1]],[\"semaphore\",3,0],[\"defrag\",4,1,0,0],[\"submit\",0,[[[],[[\"fill\",2,0,16,7]],[[3,1,65536]]]]],[\"wait\",[[3,1]]],[\"pass\",4]]") ≡ Some trace.pass_busy_corrected
  pub pass_write : meant_by (codes "[[\"pool\",1,\"tlsf\",1,4096,2],[\"buffer\",2,16,3,\"exclusive\",[\"pool\",1]],[\"defrag\",3,1,0,0],[\"map\",2],[\"pass\",3],[\"write\",2,0,\"07\"]]") ≡ Some trace.pass_write
  pub pass_write_corrected : meant_by (codes "[[\"pool\",1,\"tlsf\",1,4096,2],[\"buffer\",2,16,3,\"exclusive\",[\"pool\",1]],[\"defrag\",3,1,0,0],[\"map\",2],[\"pass\",3],[\"end_pass\",3,[],[]],[\"write\",2,0,\"07\"]]") ≡ Some trace.pass_write_corrected
  pub hazard_war : meant_by (codes "[[\"buffer\",1,16,3,\"exclusive\",[\"dedicated\",1]],[\"buffer\",2,16,3,\"exclusive\",[\"dedicated\",1]],[\"submit\",0,[[[],[[\"copy\",1,2,[[0,0,4]]],[\"fill\",1,0,4,7]],[]]]]]") ≡ Some trace.hazard_war
  pub hazard_war_corrected : meant_by (codes "[[\"buffer\",1,16,3,\"exclusive\",[\"dedicated\",1]],[\"buffer\",2,16,3,\"exclusive\",[\"dedicated\",1]],[\"submit\",0,[[[],[[\"copy\",1,2,[[0,0,4]]],[\"barrier\",[[4096,0,4096,0]],[],[]],[\"fill\",1,0,4,7]],[]]]]]") ≡ Some trace.hazard_war_corrected
  pub hazard_raw : meant_by (codes "[[\"buffer\",1,16,3,\"exclusive\",[\"dedicated\",1]],[\"semaphore\",2,0],[\"map\",1],[\"submit\",0,[[[],[[\"fill\",1,0,4,7]],[[2,1,65536]]]]],[\"wait\",[[2,1]]],[\"read\",1,0,4]]") ≡ Some trace.hazard_raw
  pub hazard_raw_corrected : meant_by (codes "[[\"buffer\",1,16,3,\"exclusive\",[\"dedicated\",1]],[\"semaphore\",2,0],[\"map\",1],[\"submit\",0,[[[],[[\"fill\",1,0,4,7],[\"barrier\",[[4096,4096,16384,8192]],[],[]]],[[2,1,65536]]]]],[\"wait\",[[2,1]]],[\"read\",1,0,4]]") ≡ Some trace.hazard_raw_corrected
  pub hazard_waw : meant_by (codes "[[\"buffer\",1,16,3,\"exclusive\",[\"dedicated\",1]],[\"submit\",0,[[[],[[\"fill\",1,0,4,7],[\"fill\",1,0,4,8]],[]]]]]") ≡ Some trace.hazard_waw
  pub hazard_waw_corrected : meant_by (codes "[[\"buffer\",1,16,3,\"exclusive\",[\"dedicated\",1]],[\"submit\",0,[[[],[[\"fill\",1,0,4,7],[\"barrier\",[[4096,4096,4096,4096]],[],[]],[\"fill\",1,0,4,8]],[]]]]]") ≡ Some trace.hazard_waw_corrected
  pub in_use : meant_by (codes "[[\"buffer\",1,16,3,\"exclusive\",[\"dedicated\",1]],[\"semaphore\",2,0],[\"submit\",0,[[[],[[\"fill\",1,0,16,1]],[[2,1,65536]]]]],[\"destroy\",1]]") ≡ Some trace.in_use
  pub in_use_corrected : meant_by (codes "[[\"buffer\",1,16,3,\"exclusive\",[\"dedicated\",1]],[\"semaphore\",2,0],[\"submit\",0,[[[],[[\"fill\",1,0,16,1]],[[2,1,65536]]]]],[\"wait\",[[2,1]]],[\"destroy\",1]]") ≡ Some trace.in_use_corrected
  pub read_undefined : meant_by (codes "[[\"buffer\",1,16,3,\"exclusive\",[\"dedicated\",1]],[\"map\",1],[\"read\",1,0,1]]") ≡ Some trace.read_undefined
  pub read_undefined_corrected : meant_by (codes "[[\"buffer\",1,16,3,\"exclusive\",[\"dedicated\",1]],[\"map\",1],[\"write\",1,0,\"07\"],[\"read\",1,0,1]]") ≡ Some trace.read_undefined_corrected
