use Rattle.std.proofs.Common.{◌≡◌, ℕ, List, take}
use Rattle.vk_model.specs.declared.entry.Entry.{Entry}
use Rattle.vk_model.specs.Run.Runs.{Step, Stage}
use Rattle.vk_model.specs.Run.CachedRuns.{happening}
use Rattle.vk_queues.specs.PointViews.{past_after}
use Rattle.vk_offers.specs.IsHappenings.{IsHappenings}
use Rattle.vk_cached_device.specs.LedLate.{AreWriters}
use Rattle.vk_cached_device.specs.Inner.{Arrives}
use Rattle.vk_cached_device.proofs.Advancing.{stage_after}
use Rattle.vk_cached_device.proofs.device.CachedDevice.advance.Given as goal

-- So many of the points have come.
abbrev pub invariant-loop-point : goal.invariant-loop-point
invariant-loop-point l = record {
  device : l.self.device ≡ l.initial.self.device;
  lags : l.self.lags ≡ l.initial.self.lags;
  waiting : l.self.waiting ≡ l.initial.self.waiting;
  count : l.self.count ≡ l.initial.self.count;
  failed : l.self.failed ≡ l.initial.self.failed;
  happenings : (t : List Entry) (steps : List Step) (s : Stage) (xs : List Entry) (atoms : List ℕ) → Arrives t steps s l.entry xs atoms l.fn.self
      → IsHappenings l.self.happenings (past_after s.front.past (take l.point-index l.point-items)) s.done (happening s (stage_after s (take l.point-index l.point-items)));
  writers : (t : List Entry) (steps : List Step) (s : Stage) (xs : List Entry) (atoms : List ℕ) → Arrives t steps s l.entry xs atoms l.fn.self → AreWriters l.self.writers.items (past_after s.front.past (take l.point-index l.point-items));
}
