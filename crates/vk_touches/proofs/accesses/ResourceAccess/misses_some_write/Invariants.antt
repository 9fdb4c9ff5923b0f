use Rattle.vk_ranges.specs.Overlaps.{pieces_left}
use Rattle.vk_touches.specs.Conflicts.{AreSeen, MissesWrite}
use Rattle.vk_touches.specs.TouchMaps.{with_write_alone}
use Rattle.vk_touches.proofs.Searches.{AreSearched}
use Rattle.vk_touches.proofs.accesses.ResourceAccess.misses_some_write.Given as goal

abbrev pub invariant-loop-run : goal.invariant-loop-run
invariant-loop-run l = record {
  searched : AreSearched (λ k r w. MissesWrite l.self k r (with_write_alone w)) (MissesWrite l.self) l.touches l.low l.high (pieces_left l.run-iterator);
  visible_prefix : AreSeen l.self l.visible_prefix;
}
