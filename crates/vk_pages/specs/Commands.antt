-- What the texts on the page of worked pairs mean, for each rule from RANGE to OWNER_PAIR.
use Rattle.std.specs.Prelude.{◌≡◌, codes, Some}
use Rattle.vk_trace.specs.TextExamples.{meant_by}
use Rattle.vk_rows.specs.TracesOfCommands as trace

-- Each text for each rule from RANGE to OWNER_PAIR means the trace of which it is proved what it breaks.
pub record CommandsMean : Type 0 where
  pub range : meant_by (codes "[[\"buffer\",1,16,3,\"exclusive\",[\"dedicated\",1]],[\"map\",1],[\"flush\",1,0,17]]") ≡ Some trace.range
  pub range_corrected : meant_by (codes "[[\"buffer\",1,16,3,\"exclusive\",[\"dedicated\",1]],[\"map\",1],[\"flush\",1,0,16]]") ≡ Some trace.range_corrected
  pub align : meant_by (codes "[[\"buffer\",1,16,3,\"exclusive\",[\"dedicated\",1]],[\"submit\",0,[[[],[[\"fill\",1,2,4,7]],[]]]]]") ≡ Some trace.align
  pub align_corrected : meant_by (codes "[[\"buffer\",1,16,3,\"exclusive\",[\"dedicated\",1]],[\"submit\",0,[[[],[[\"fill\",1,4,4,7]],[]]]]]") ≡ Some trace.align_corrected
  pub overlap : meant_by (codes "[[\"buffer\",1,16,3,\"exclusive\",[\"dedicated\",1]],[\"submit\",0,[[[],[[\"copy\",1,1,[[0,4,8]]]],[]]]]]") ≡ Some trace.overlap
  pub overlap_corrected : meant_by (codes "[[\"buffer\",1,16,3,\"exclusive\",[\"dedicated\",1]],[\"submit\",0,[[[],[[\"copy\",1,1,[[0,8,8]]]],[]]]]]") ≡ Some trace.overlap_corrected
  pub format : meant_by (codes "[[\"image\",1,\"R8_UINT\",8,8,1,1,\"optimal\",3,\"exclusive\",[\"dedicated\",0]],[\"image\",2,\"R16_UINT\",8,8,1,1,\"optimal\",3,\"exclusive\",[\"dedicated\",0]],[\"submit\",0,[[[],[[\"barrier\",[],[],[[4096,4096,4096,6144,4294967295,4294967295,1,0,1,[0,1,0,1]],[4096,4096,4096,6144,4294967295,4294967295,2,0,1,[0,1,0,1]]]],[\"copy_image\",1,1,2,1,[[0,0,0,0,1,0,0,0,0,8,8]]]],[]]]]]") ≡ Some trace.format
  pub format_corrected : meant_by (codes "[[\"image\",1,\"R8_UINT\",8,8,1,1,\"optimal\",3,\"exclusive\",[\"dedicated\",0]],[\"image\",2,\"R8_UINT\",8,8,1,1,\"optimal\",3,\"exclusive\",[\"dedicated\",0]],[\"submit\",0,[[[],[[\"barrier\",[],[],[[4096,4096,4096,6144,4294967295,4294967295,1,0,1,[0,1,0,1]],[4096,4096,4096,6144,4294967295,4294967295,2,0,1,[0,1,0,1]]]],[\"copy_image\",1,1,2,1,[[0,0,0,0,1,0,0,0,0,8,8]]]],[]]]]]") ≡ Some trace.format_corrected
  pub subresource : meant_by (codes "[[\"image\",1,\"R8_UINT\",8,8,1,1,\"optimal\",3,\"exclusive\",[\"dedicated\",0]],[\"submit\",0,[[[],[[\"barrier\",[],[],[[4096,4096,4096,6144,4294967295,4294967295,1,0,0,[1,1,0,1]]]]],[]]]]]") ≡ Some trace.subresource
  pub subresource_corrected : meant_by (codes "[[\"image\",1,\"R8_UINT\",8,8,1,1,\"optimal\",3,\"exclusive\",[\"dedicated\",0]],[\"submit\",0,[[[],[[\"barrier\",[],[],[[4096,4096,4096,6144,4294967295,4294967295,1,0,0,[0,1,0,1]]]]],[]]]]]") ≡ Some trace.subresource_corrected
  pub stage : meant_by (codes "[[\"submit\",0,[[[],[[\"barrier\",[[1,0,0,0]],[],[]]],[]]]]]") ≡ Some trace.stage
  pub stage_corrected : meant_by (codes "[[\"submit\",0,[[[],[[\"barrier\",[[4096,0,0,0]],[],[]]],[]]]]]") ≡ Some trace.stage_corrected
  pub layout : meant_by (codes "[[\"image\",1,\"R8_UINT\",8,8,1,1,\"optimal\",3,\"exclusive\",[\"dedicated\",0]],[\"submit\",0,[[[],[[\"clear\",1,7,[0,0,0,0],[[0,1,0,1]]]],[]]]]]") ≡ Some trace.layout
  pub layout_corrected : meant_by (codes "[[\"image\",1,\"R8_UINT\",8,8,1,1,\"optimal\",3,\"exclusive\",[\"dedicated\",0]],[\"submit\",0,[[[],[[\"barrier\",[],[],[[4096,4096,4096,6144,4294967295,4294967295,1,0,7,[0,1,0,1]]]],[\"clear\",1,7,[0,0,0,0],[[0,1,0,1]]]],[]]]]]") ≡ Some trace.layout_corrected
  pub old_layout : meant_by (codes "[[\"image\",1,\"R8_UINT\",8,8,1,1,\"optimal\",3,\"exclusive\",[\"dedicated\",0]],[\"submit\",0,[[[],[[\"barrier\",[],[],[[4096,4096,4096,6144,4294967295,4294967295,1,1,7,[0,1,0,1]]]]],[]]]]]") ≡ Some trace.old_layout
  pub old_layout_corrected : meant_by (codes "[[\"image\",1,\"R8_UINT\",8,8,1,1,\"optimal\",3,\"exclusive\",[\"dedicated\",0]],[\"submit\",0,[[[],[[\"barrier\",[],[],[[4096,4096,4096,6144,4294967295,4294967295,1,0,7,[0,1,0,1]]]]],[]]]]]") ≡ Some trace.old_layout_corrected
  pub owner_whole : meant_by (codes "[[\"buffer\",1,16,3,\"exclusive\",[\"dedicated\",1]],[\"submit\",0,[[[],[[\"barrier\",[],[[4096,4096,0,0,0,1,1,0,8]],[]]],[]]]]]") ≡ Some trace.owner_whole
  pub owner_whole_corrected : meant_by (codes "[[\"buffer\",1,16,3,\"exclusive\",[\"dedicated\",1]],[\"submit\",0,[[[],[[\"barrier\",[],[[4096,4096,0,0,0,1,1,0,\"whole\"]],[]]],[]]]]]") ≡ Some trace.owner_whole_corrected
  pub owner_pair : meant_by (codes "[[\"buffer\",1,16,3,\"exclusive\",[\"dedicated\",1]],[\"semaphore\",2,1],[\"submit\",2,[[[[2,1,65536]],[[\"barrier\",[],[[4096,0,4096,2048,0,1,1,0,\"whole\"]],[]]],[]]]]]") ≡ Some trace.owner_pair
  pub owner_pair_corrected : meant_by (codes "[[\"buffer\",1,16,3,\"exclusive\",[\"dedicated\",1]],[\"semaphore\",2,0],[\"submit\",0,[[[],[[\"barrier\",[],[[4096,4096,0,0,0,1,1,0,\"whole\"]],[]]],[[2,1,65536]]]]],[\"submit\",2,[[[[2,1,65536]],[[\"barrier\",[],[[4096,0,4096,2048,0,1,1,0,\"whole\"]],[]]],[]]]]]") ≡ Some trace.owner_pair_corrected
