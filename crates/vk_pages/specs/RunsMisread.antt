-- What the texts on the page of worked pairs mean, for the wrong readings of room and of steps.
use Rattle.std.specs.Prelude.{◌≡◌, codes, Some}
use Rattle.vk_trace.specs.TextExamples.{meant_by}
use Rattle.vk_rows.specs.RunsMisread as trace

-- Each text for the wrong readings of room and of steps means the trace of which it is proved what it has.
pub record RunsMisreadMean : Type 0 where
  pub move_over_a_limit : meant_by (codes "[[\"pool\",1,\"tlsf\",1,4096,1],[\"buffer\",10,1024,3,\"exclusive\",[\"pool\",1]],[\"buffer\",11,512,3,\"exclusive\",[\"pool\",1]],[\"buffer\",12,1024,3,\"exclusive\",[\"pool\",1]],[\"destroy\",10],[\"defrag\",2,1,512,0],[\"pass\",2],[\"end_pass\",2,[],[]],[\"destroy\",12],[\"buffer\",13,2048,3,\"exclusive\",[\"pool\",1]],[\"buffer\",14,1536,3,\"exclusive\",[\"pool\",1]]]") ≡ Some trace.move_over_a_limit
  pub move_over_a_limit_corrected : meant_by (codes "[[\"pool\",1,\"tlsf\",1,4096,1],[\"buffer\",10,1024,3,\"exclusive\",[\"pool\",1]],[\"buffer\",11,512,3,\"exclusive\",[\"pool\",1]],[\"buffer\",12,1024,3,\"exclusive\",[\"pool\",1]],[\"destroy\",10],[\"destroy\",12],[\"defrag\",2,1,512,0],[\"pass\",2],[\"end_pass\",2,[],[]],[\"buffer\",13,2048,3,\"exclusive\",[\"pool\",1]],[\"buffer\",14,1536,3,\"exclusive\",[\"pool\",1]]]") ≡ Some trace.move_over_a_limit_corrected
  pub target_of_a_kept_move : meant_by (codes "[[\"pool\",1,\"tlsf\",1,4096,1],[\"buffer\",10,1024,3,\"exclusive\",[\"pool\",1]],[\"buffer\",11,1024,3,\"exclusive\",[\"pool\",1]],[\"buffer\",12,1024,3,\"exclusive\",[\"pool\",1]],[\"buffer\",13,1024,3,\"exclusive\",[\"pool\",1]],[\"destroy\",10],[\"defrag\",2,1,0,0],[\"pass\",2],[\"buffer\",14,1024,3,\"exclusive\",[\"pool\",1]]]") ≡ Some trace.target_of_a_kept_move
  pub target_of_a_kept_move_corrected : meant_by (codes "[[\"pool\",1,\"tlsf\",1,4096,1],[\"buffer\",10,1024,3,\"exclusive\",[\"pool\",1]],[\"buffer\",11,1024,3,\"exclusive\",[\"pool\",1]],[\"buffer\",12,1024,3,\"exclusive\",[\"pool\",1]],[\"buffer\",13,1024,3,\"exclusive\",[\"pool\",1]],[\"destroy\",10],[\"defrag\",2,1,0,0],[\"pass\",2],[\"end_pass\",2,[13],[]],[\"buffer\",14,1024,3,\"exclusive\",[\"pool\",1]]]") ≡ Some trace.target_of_a_kept_move_corrected
  pub alignment_of_cached_memory : meant_by (codes "[[\"pool\",1,\"linear\",2,1024,1],[\"buffer\",2,272,3,\"exclusive\",[\"pool\",1]],[\"buffer\",3,272,3,\"exclusive\",[\"pool\",1]],[\"buffer\",4,448,3,\"exclusive\",[\"pool\",1]]]") ≡ Some trace.alignment_of_cached_memory
  pub alignment_of_cached_memory_corrected : meant_by (codes "[[\"pool\",1,\"linear\",1,1024,1],[\"buffer\",2,272,3,\"exclusive\",[\"pool\",1]],[\"buffer\",3,272,3,\"exclusive\",[\"pool\",1]],[\"buffer\",4,448,3,\"exclusive\",[\"pool\",1]]]") ≡ Some trace.alignment_of_cached_memory_corrected
  pub pieces_before_parts : meant_by (codes "[[\"pool\",1,\"tlsf\",1,4096,1],[\"buffer\",2,16,3,\"exclusive\",[\"pool\",1]],[\"buffer\",3,16,3,\"exclusive\",[\"pool\",1]],[\"buffer\",4,16,3,\"exclusive\",[\"dedicated\",1]],[\"destroy\",2],[\"defrag\",5,1,0,0],[\"pass\",5],[\"submit\",0,[[[],[[\"fill\",4,0,16,7]],[]]]],[\"end_pass\",5,[],[]]]") ≡ Some trace.pieces_before_parts
  pub copies_after_a_pass : meant_by (codes "[[\"pool\",1,\"tlsf\",1,4096,1],[\"buffer\",2,16,3,\"exclusive\",[\"pool\",1]],[\"buffer\",3,16,3,\"exclusive\",[\"pool\",1]],[\"destroy\",2],[\"defrag\",4,1,0,0],[\"pass\",4],[\"end_pass\",4,[],[]]]") ≡ Some trace.copies_after_a_pass
  pub invalidated_and_clean : meant_by (codes "[[\"buffer\",1,64,3,\"exclusive\",[\"dedicated\",2]],[\"map\",1],[\"write\",1,0,\"aa\"],[\"invalidate\",1,0,1]]") ≡ Some trace.invalidated_and_clean
