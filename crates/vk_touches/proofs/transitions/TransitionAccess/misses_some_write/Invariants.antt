use Rattle.vk_ranges.specs.Overlaps.{pieces_left}
use Rattle.vk_touches.specs.Conflicts.{MissesWriteAt}
use Rattle.vk_touches.specs.TouchMaps.{with_write_alone}
use Rattle.vk_touches.proofs.Searches.{AreSearched}
use Rattle.vk_touches.proofs.transitions.TransitionAccess.misses_some_write.Given as goal

abbrev pub invariant-loop-run : goal.invariant-loop-run
invariant-loop-run l = AreSearched (λ k r w. MissesWriteAt l.self k r (with_write_alone w)) (MissesWriteAt l.self) l.touches l.low l.high (pieces_left l.run-iterator)
