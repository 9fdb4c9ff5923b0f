-- What the text on the page of definitions means.
use Rattle.std.specs.Prelude.{◌≡◌, codes, Some}
use Rattle.vk_trace.specs.TextExamples.{meant_by}
use Rattle.vk_rows.specs.Uploads.{the_example}

-- The text means the trace of which it is proved what it reads.
abbrev pub ExampleMeans : Type 0
ExampleMeans = meant_by (codes "[[\"buffer\",1,16,3,\"exclusive\",[\"dedicated\",1]],\n [\"semaphore\",2,0],\n [\"submit\",0,[[[],[[\"fill\",1,0,16,67305985],[\"barrier\",[[4096,4096,16384,8192]],[],[]]],[[2,1,65536]]]]],\n [\"wait\",[[2,1]]],\n [\"map\",1],\n [\"read\",1,0,4]]") ≡ Some the_example
