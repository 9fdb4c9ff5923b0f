use Rattle.std.proofs.Common.{◌≡◌, take}
use Rattle.std.specs.Prelude.{sum_by}
use Rattle.vk_repairs.specs.Starts.{entry_points}
use Rattle.vk_repairs.proofs.counting.all_points.Given as goal

-- the points of the entries so far
abbrev pub invariant-loop-entry : goal.invariant-loop-entry
invariant-loop-entry l = l.count ≡ sum_by entry_points (take l.entry-index l.trace)
