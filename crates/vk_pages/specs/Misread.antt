-- What the texts on the page of worked pairs mean, for the wrong readings of the rules from LIVE_ID to PASS_WRITE.
use Rattle.std.specs.Prelude.{◌≡◌, codes, Some}
use Rattle.vk_trace.specs.TextExamples.{meant_by}
use Rattle.vk_rows.specs.TracesMisread as trace

-- Each text for the wrong readings of the rules from LIVE_ID to PASS_WRITE means the trace of which it is proved what it breaks.
pub record MisreadMean : Type 0 where
  pub kept_of_another_pool : meant_by (codes "[[\"pool\",1,\"tlsf\",1,4096,2],[\"pool\",2,\"tlsf\",1,4096,2],[\"buffer\",3,16,3,\"exclusive\",[\"pool\",2]],[\"defrag\",4,1,0,0],[\"pass\",4],[\"end_pass\",4,[3],[]]]") ≡ Some trace.kept_of_another_pool
  pub kept_of_another_pool_corrected : meant_by (codes "[[\"pool\",1,\"tlsf\",1,4096,2],[\"pool\",2,\"tlsf\",1,4096,2],[\"buffer\",3,16,3,\"exclusive\",[\"pool\",1]],[\"defrag\",4,1,0,0],[\"pass\",4],[\"end_pass\",4,[3],[]]]") ≡ Some trace.kept_of_another_pool_corrected
  pub fill_of_less_than_a_word : meant_by (codes "[[\"buffer\",1,18,3,\"exclusive\",[\"dedicated\",1]],[\"submit\",0,[[[],[[\"fill\",1,16,\"whole\",7]],[]]]]]") ≡ Some trace.fill_of_less_than_a_word
  pub fill_of_less_than_a_word_corrected : meant_by (codes "[[\"buffer\",1,18,3,\"exclusive\",[\"dedicated\",1]],[\"submit\",0,[[[],[[\"fill\",1,12,\"whole\",7]],[]]]]]") ≡ Some trace.fill_of_less_than_a_word_corrected
  pub levels_of_the_longest_side : meant_by (codes "[[\"image\",1,\"R8_UINT\",4096,1,14,1,\"optimal\",3,\"exclusive\",[\"dedicated\",0]]]") ≡ Some trace.levels_of_the_longest_side
  pub levels_of_the_longest_side_corrected : meant_by (codes "[[\"image\",1,\"R8_UINT\",4096,1,13,1,\"optimal\",3,\"exclusive\",[\"dedicated\",0]]]") ≡ Some trace.levels_of_the_longest_side_corrected
  pub offset_on_a_transfer_queue : meant_by (codes "[[\"buffer\",1,16,1,\"exclusive\",[\"dedicated\",1]],[\"image\",2,\"R8_UINT\",2,2,1,1,\"optimal\",3,\"exclusive\",[\"dedicated\",0]],[\"submit\",2,[[[],[[\"barrier\",[],[],[[4096,0,4096,4096,4294967295,4294967295,2,0,1,[0,1,0,1]]]],[\"copy_in\",1,2,1,[[1,0,0,0,0,1,0,0,2,2]]]],[]]]]]") ≡ Some trace.offset_on_a_transfer_queue
  pub offset_on_a_transfer_queue_corrected : meant_by (codes "[[\"buffer\",1,16,1,\"exclusive\",[\"dedicated\",1]],[\"image\",2,\"R8_UINT\",2,2,1,1,\"optimal\",3,\"exclusive\",[\"dedicated\",0]],[\"submit\",2,[[[],[[\"barrier\",[],[],[[4096,0,4096,4096,4294967295,4294967295,2,0,1,[0,1,0,1]]]],[\"copy_in\",1,2,1,[[4,0,0,0,0,1,0,0,2,2]]]],[]]]]]") ≡ Some trace.offset_on_a_transfer_queue_corrected
  pub host_in_a_wait : meant_by (codes "[[\"semaphore\",1,1],[\"submit\",0,[[[[1,1,16384]],[],[]]]]]") ≡ Some trace.host_in_a_wait
  pub host_in_a_wait_corrected : meant_by (codes "[[\"semaphore\",1,1],[\"submit\",0,[[[[1,1,4096]],[],[]]]]]") ≡ Some trace.host_in_a_wait_corrected
  pub host_in_a_signal : meant_by (codes "[[\"semaphore\",1,0],[\"submit\",0,[[[],[],[[1,1,16384]]]]]]") ≡ Some trace.host_in_a_signal
  pub host_in_a_signal_corrected : meant_by (codes "[[\"semaphore\",1,0],[\"submit\",0,[[[],[],[[1,1,4096]]]]]]") ≡ Some trace.host_in_a_signal_corrected
  pub acquired_in_another_layout : meant_by (codes "[[\"image\",1,\"R8_UINT\",2,2,1,1,\"optimal\",3,\"exclusive\",[\"dedicated\",0]],[\"semaphore\",2,0],[\"submit\",0,[[[],[[\"barrier\",[],[],[[4096,0,0,0,0,1,1,0,1,[0,1,0,1]]]]],[[2,1,65536]]]]],[\"submit\",2,[[[[2,1,65536]],[[\"barrier\",[],[],[[0,0,4096,2048,0,1,1,0,7,[0,1,0,1]]]]],[]]]]]") ≡ Some trace.acquired_in_another_layout
  pub acquired_in_another_layout_corrected : meant_by (codes "[[\"image\",1,\"R8_UINT\",2,2,1,1,\"optimal\",3,\"exclusive\",[\"dedicated\",0]],[\"semaphore\",2,0],[\"submit\",0,[[[],[[\"barrier\",[],[],[[4096,0,0,0,0,1,1,0,1,[0,1,0,1]]]]],[[2,1,65536]]]]],[\"submit\",2,[[[[2,1,65536]],[[\"barrier\",[],[],[[0,0,4096,2048,0,1,1,0,1,[0,1,0,1]]]]],[]]]]]") ≡ Some trace.acquired_in_another_layout_corrected
  pub release_of_a_concurrent_resource : meant_by (codes "[[\"buffer\",1,16,3,\"concurrent\",[\"dedicated\",1]],[\"submit\",0,[[[],[[\"barrier\",[],[[4096,4096,0,0,0,1,1,0,\"whole\"]],[]]],[]]]]]") ≡ Some trace.release_of_a_concurrent_resource
  pub release_of_a_concurrent_resource_corrected : meant_by (codes "[[\"buffer\",1,16,3,\"exclusive\",[\"dedicated\",1]],[\"submit\",0,[[[],[[\"barrier\",[],[[4096,4096,0,0,0,1,1,0,\"whole\"]],[]]],[]]]]]") ≡ Some trace.release_of_a_concurrent_resource_corrected
  pub set_on_another_queue : meant_by (codes "[[\"event\",1],[\"submit\",0,[[[],[[\"set\",1,[]]],[]]]],[\"submit\",1,[[[],[[\"await\",1,[]]],[]]]]]") ≡ Some trace.set_on_another_queue
  pub set_on_another_queue_corrected : meant_by (codes "[[\"event\",1],[\"submit\",0,[[[],[[\"set\",1,[]]],[]]]],[\"submit\",0,[[[],[[\"await\",1,[]]],[]]]]]") ≡ Some trace.set_on_another_queue_corrected
  pub destroyed_while_its_memory_is_mapped : meant_by (codes "[[\"buffer\",1,16,3,\"exclusive\",[\"dedicated\",1]],[\"map\",1],[\"destroy\",1]]") ≡ Some trace.destroyed_while_its_memory_is_mapped
  pub destroyed_while_its_memory_is_mapped_corrected : meant_by (codes "[[\"memory\",2,1,64],[\"buffer\",1,16,3,\"exclusive\",[\"memory\",2,0]],[\"map\",1],[\"destroy\",1]]") ≡ Some trace.destroyed_while_its_memory_is_mapped_corrected
  pub passes_of_two_pools : meant_by (codes "[[\"pool\",1,\"tlsf\",1,4096,2],[\"pool\",2,\"tlsf\",1,4096,2],[\"defrag\",3,1,0,0],[\"defrag\",4,2,0,0],[\"pass\",3],[\"pass\",4]]") ≡ Some trace.passes_of_two_pools
  pub passes_of_two_pools_corrected : meant_by (codes "[[\"pool\",1,\"tlsf\",1,4096,2],[\"pool\",2,\"tlsf\",1,4096,2],[\"defrag\",3,1,0,0],[\"defrag\",4,2,0,0],[\"pass\",3],[\"end_pass\",3,[],[]],[\"pass\",4]]") ≡ Some trace.passes_of_two_pools_corrected
  pub ended_inside_its_pass : meant_by (codes "[[\"pool\",1,\"tlsf\",1,4096,2],[\"defrag\",2,1,0,0],[\"pass\",2],[\"end_defrag\",2]]") ≡ Some trace.ended_inside_its_pass
  pub ended_inside_its_pass_corrected : meant_by (codes "[[\"pool\",1,\"tlsf\",1,4096,2],[\"defrag\",2,1,0,0],[\"pass\",2],[\"end_pass\",2,[],[]],[\"end_defrag\",2]]") ≡ Some trace.ended_inside_its_pass_corrected
  pub dropped_while_defragmented : meant_by (codes "[[\"pool\",1,\"tlsf\",1,4096,2],[\"defrag\",2,1,0,0],[\"drop_pool\",1]]") ≡ Some trace.dropped_while_defragmented
  pub dropped_while_defragmented_corrected : meant_by (codes "[[\"pool\",1,\"tlsf\",1,4096,2],[\"defrag\",2,1,0,0],[\"end_defrag\",2],[\"drop_pool\",1]]") ≡ Some trace.dropped_while_defragmented_corrected
  pub acquired_inside_a_pass : meant_by (codes "[[\"pool\",1,\"tlsf\",0,4096,2],[\"image\",2,\"R8_UINT\",2,2,1,1,\"optimal\",3,\"exclusive\",[\"pool\",1]],[\"semaphore\",3,0],[\"defrag\",4,1,0,0],[\"submit\",0,[[[],[[\"barrier\",[],[],[[4096,0,0,0,0,1,2,0,1,[0,1,0,1]]]]],[[3,1,65536]]]]],[\"wait\",[[3,1]]],[\"pass\",4],[\"submit\",2,[[[[3,1,65536]],[[\"barrier\",[],[],[[0,0,4096,2048,0,1,2,0,1,[0,1,0,1]]]]],[]]]]]") ≡ Some trace.acquired_inside_a_pass
  pub acquired_inside_a_pass_corrected : meant_by (codes "[[\"pool\",1,\"tlsf\",0,4096,2],[\"image\",2,\"R8_UINT\",2,2,1,1,\"optimal\",3,\"exclusive\",[\"pool\",1]],[\"semaphore\",3,0],[\"defrag\",4,1,0,0],[\"submit\",0,[[[],[[\"barrier\",[],[],[[4096,0,0,0,0,1,2,0,1,[0,1,0,1]]]]],[[3,1,65536]]]]],[\"wait\",[[3,1]]],[\"pass\",4],[\"end_pass\",4,[],[]],[\"submit\",2,[[[[3,1,65536]],[[\"barrier\",[],[],[[0,0,4096,2048,0,1,2,0,1,[0,1,0,1]]]]],[]]]]]") ≡ Some trace.acquired_inside_a_pass_corrected
