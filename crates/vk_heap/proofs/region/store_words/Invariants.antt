use Rattle.std.proofs.Common.{◌≡◌, ◌*◌, take}
use Rattle.std.specs.Int.{to_le_bytes, w32}
use Rattle.vk_heap.specs.Region.{repeated}
use Rattle.vk_heap.proofs.region.store_words.Given as goal

abbrev pub invariant-loop-i : goal.invariant-loop-i
invariant-loop-i l = take (4 * l.i) l.out ≡ repeated l.i (to_le_bytes w32 l.word)
