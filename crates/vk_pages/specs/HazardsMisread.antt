-- What the texts on the page of worked pairs mean, for the wrong readings of HAZARD_RAW, HAZARD_WAW and READ_UNDEFINED.
use Rattle.std.specs.Prelude.{◌≡◌, codes, Some}
use Rattle.vk_trace.specs.TextExamples.{meant_by}
use Rattle.vk_rows.specs.HazardsMisread as trace

-- Each text for the wrong readings of HAZARD_RAW, HAZARD_WAW and READ_UNDEFINED means the trace of which it is proved what it breaks.
pub record HazardsMisreadMean : Type 0 where
  pub wait_that_the_initial_value_meets : meant_by (codes "[[\"buffer\",1,16,3,\"exclusive\",[\"dedicated\",1]],[\"semaphore\",2,1],[\"map\",1],[\"submit\",0,[[[],[[\"fill\",1,0,4,7],[\"barrier\",[[4096,4096,16384,8192]],[],[]]],[[2,2,65536]]]]],[\"wait\",[[2,1]]],[\"read\",1,0,4]]") ≡ Some trace.wait_that_the_initial_value_meets
  pub wait_that_the_initial_value_meets_corrected : meant_by (codes "[[\"buffer\",1,16,3,\"exclusive\",[\"dedicated\",1]],[\"semaphore\",2,1],[\"map\",1],[\"submit\",0,[[[],[[\"fill\",1,0,4,7],[\"barrier\",[[4096,4096,16384,8192]],[],[]]],[[2,2,65536]]]]],[\"wait\",[[2,2]]],[\"read\",1,0,4]]") ≡ Some trace.wait_that_the_initial_value_meets_corrected
  pub dependency_to_the_host_after_the_signal : meant_by (codes "[[\"buffer\",1,16,3,\"exclusive\",[\"dedicated\",1]],[\"semaphore\",2,0],[\"map\",1],[\"submit\",0,[[[],[[\"fill\",1,0,4,7]],[[2,1,4096]]],[[],[[\"barrier\",[[4096,4096,16384,8192]],[],[]]],[]]]],[\"wait\",[[2,1]]],[\"read\",1,0,4]]") ≡ Some trace.dependency_to_the_host_after_the_signal
  pub dependency_to_the_host_after_the_signal_corrected : meant_by (codes "[[\"buffer\",1,16,3,\"exclusive\",[\"dedicated\",1]],[\"semaphore\",2,0],[\"map\",1],[\"submit\",0,[[[],[[\"fill\",1,0,4,7],[\"barrier\",[[4096,4096,16384,8192]],[],[]]],[[2,1,4096]]]]],[\"wait\",[[2,1]]],[\"read\",1,0,4]]") ≡ Some trace.dependency_to_the_host_after_the_signal_corrected
  pub set_and_not_awaited : meant_by (codes "[[\"buffer\",1,16,3,\"exclusive\",[\"dedicated\",1]],[\"semaphore\",2,0],[\"event\",3],[\"map\",1],[\"submit\",0,[[[],[[\"fill\",1,0,4,7],[\"set\",3,[[4096,4096,16384,8192]]]],[[2,1,65536]]]]],[\"wait\",[[2,1]]],[\"read\",1,0,4]]") ≡ Some trace.set_and_not_awaited
  pub set_and_not_awaited_corrected : meant_by (codes "[[\"buffer\",1,16,3,\"exclusive\",[\"dedicated\",1]],[\"semaphore\",2,0],[\"event\",3],[\"map\",1],[\"submit\",0,[[[],[[\"fill\",1,0,4,7],[\"set\",3,[[4096,4096,16384,8192]]],[\"await\",3,[[4096,4096,16384,8192]]]],[[2,1,65536]]]]],[\"wait\",[[2,1]]],[\"read\",1,0,4]]") ≡ Some trace.set_and_not_awaited_corrected
  pub read_without_an_invalidation : meant_by (codes "[[\"buffer\",1,16,3,\"exclusive\",[\"dedicated\",2]],[\"semaphore\",2,0],[\"map\",1],[\"submit\",0,[[[],[[\"fill\",1,0,4,7],[\"barrier\",[[4096,4096,16384,8192]],[],[]]],[[2,1,65536]]]]],[\"wait\",[[2,1]]],[\"read\",1,0,1]]") ≡ Some trace.read_without_an_invalidation
  pub read_without_an_invalidation_corrected : meant_by (codes "[[\"buffer\",1,16,3,\"exclusive\",[\"dedicated\",2]],[\"semaphore\",2,0],[\"map\",1],[\"submit\",0,[[[],[[\"fill\",1,0,4,7],[\"barrier\",[[4096,4096,16384,16384]],[],[]]],[[2,1,65536]]]]],[\"wait\",[[2,1]]],[\"write\",1,0,\"07\"]]") ≡ Some trace.read_without_an_invalidation_corrected
  pub memory_read_between_fills : meant_by (codes "[[\"buffer\",1,16,3,\"exclusive\",[\"dedicated\",1]],[\"submit\",0,[[[],[[\"fill\",1,0,4,7],[\"barrier\",[[4096,32768,4096,32768]],[],[]],[\"fill\",1,0,4,8]],[]]]]]") ≡ Some trace.memory_read_between_fills
  pub memory_read_between_fills_corrected : meant_by (codes "[[\"buffer\",1,16,3,\"exclusive\",[\"dedicated\",1]],[\"submit\",0,[[[],[[\"fill\",1,0,4,7],[\"barrier\",[[4096,65536,4096,65536]],[],[]],[\"fill\",1,0,4,8]],[]]]]]") ≡ Some trace.memory_read_between_fills_corrected
  pub memory_read_before_a_write_of_the_host : meant_by (codes "[[\"buffer\",1,16,3,\"exclusive\",[\"dedicated\",1]],[\"semaphore\",2,0],[\"map\",1],[\"submit\",0,[[[],[[\"fill\",1,0,4,7],[\"barrier\",[[4096,4096,16384,32768]],[],[]]],[[2,1,65536]]]]],[\"wait\",[[2,1]]],[\"write\",1,0,\"07\"]]") ≡ Some trace.memory_read_before_a_write_of_the_host
  pub memory_read_before_a_write_of_the_host_corrected : meant_by (codes "[[\"buffer\",1,16,3,\"exclusive\",[\"dedicated\",1]],[\"semaphore\",2,0],[\"map\",1],[\"submit\",0,[[[],[[\"fill\",1,0,4,7],[\"barrier\",[[4096,4096,16384,65536]],[],[]]],[[2,1,65536]]]]],[\"wait\",[[2,1]]],[\"write\",1,0,\"07\"]]") ≡ Some trace.memory_read_before_a_write_of_the_host_corrected
  pub transition_of_a_release : meant_by (codes "[[\"image\",1,\"R8_UINT\",2,2,1,1,\"optimal\",3,\"exclusive\",[\"dedicated\",0]],[\"submit\",0,[[[],[[\"barrier\",[],[],[[4096,0,4096,4096,4294967295,4294967295,1,0,1,[0,1,0,1]]]],[\"clear\",1,1,[0,0,0,0],[[0,1,0,1]]],[\"barrier\",[],[],[[4096,0,0,0,4294967295,4294967295,1,1,6,[0,1,0,1]]]]],[]]]]]") ≡ Some trace.transition_of_a_release
  pub transition_of_a_release_corrected : meant_by (codes "[[\"image\",1,\"R8_UINT\",2,2,1,1,\"optimal\",3,\"exclusive\",[\"dedicated\",0]],[\"submit\",0,[[[],[[\"barrier\",[],[],[[4096,0,4096,4096,4294967295,4294967295,1,0,1,[0,1,0,1]]]],[\"clear\",1,1,[0,0,0,0],[[0,1,0,1]]],[\"barrier\",[],[],[[4096,0,0,0,0,1,1,1,6,[0,1,0,1]]]]],[]]]]]") ≡ Some trace.transition_of_a_release_corrected
  pub range_that_ends_with_an_atom : meant_by (codes "[[\"buffer\",1,128,3,\"exclusive\",[\"dedicated\",2]],[\"map\",1],[\"write\",1,64,\"07\"],[\"invalidate\",1,0,65],[\"read\",1,64,1]]") ≡ Some trace.range_that_ends_with_an_atom
  pub range_that_ends_with_an_atom_corrected : meant_by (codes "[[\"buffer\",1,128,3,\"exclusive\",[\"dedicated\",2]],[\"map\",1],[\"write\",1,64,\"07\"],[\"invalidate\",1,0,64],[\"read\",1,64,1]]") ≡ Some trace.range_that_ends_with_an_atom_corrected
