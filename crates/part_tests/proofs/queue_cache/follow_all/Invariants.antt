use Rattle.std.proofs.Common.{◌≡◌, length}
use Rattle.vk_map_cache.specs.Holdings.{object_in}
use Rattle.part_tests.proofs.queue_cache.follow_all.Given as goal

abbrev pub invariant-loop-row : goal.invariant-loop-row
invariant-loop-row g l = record {
  room : length (object_in l.cache 0) ≡ 4;
  size : length l.region ≡ 4;
}
