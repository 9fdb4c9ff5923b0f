use Rattle.vk_ranges.specs.Overlaps.{pieces_left}
use Rattle.vk_touches.specs.Conflicts.{AreSeen, MissesOther}
use Rattle.vk_touches.specs.TouchMaps.{without_reads}
use Rattle.vk_touches.proofs.Searches.{AreSearched}
use Rattle.vk_touches.proofs.accesses.ResourceAccess.misses_some_other.Given as goal

abbrev pub invariant-loop-run : goal.invariant-loop-run
invariant-loop-run l = record {
  searched : AreSearched (λ k r t. MissesOther l.is_cached l.self k r (without_reads t)) (MissesOther l.is_cached l.self) l.touches l.low l.high (pieces_left l.run-iterator);
  visible_prefix : AreSeen l.self l.visible_prefix;
}
