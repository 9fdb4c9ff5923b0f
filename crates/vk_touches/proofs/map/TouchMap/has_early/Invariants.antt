use Rattle.vk_ranges.specs.Overlaps.{pieces_left}
use Rattle.vk_touches.specs.Conflicts.{IsEarly}
use Rattle.vk_touches.proofs.Searches.{AreSearched}
use Rattle.vk_touches.proofs.TouchMaps.{IsEarlyAt}
use Rattle.vk_touches.proofs.map.TouchMap.has_early.Given as goal

abbrev pub invariant-loop-run : goal.invariant-loop-run
invariant-loop-run l = AreSearched (IsEarlyAt l.self-inside.reads l.new_node) (λ k. IsEarly l.new_node) l.self l.low l.high (pieces_left l.run-iterator)
