use Rattle.std.proofs.Common.{◌≡◌, ℕ, List, take}
use Rattle.vk_model.specs.declared.entry.Entry.{Entry}
use Rattle.vk_model.specs.Run.Runs.{Step, Stage}
use Rattle.vk_queues.specs.PointViews.{past_after}
use Rattle.vk_offers.specs.IsOffers.{IsOffers}
use Rattle.vk_device.specs.Led.{AreWorks}
use Rattle.vk_device.specs.Inner.Ready.{HostDone}
use Rattle.vk_device.proofs.device.Device.advance.Given as goal

abbrev pub invariant-loop-point : goal.invariant-loop-point
invariant-loop-point l = record {
  passes : l.self.passes ≡ l.initial.self.passes;
  resources : l.self.resources ≡ l.initial.self.resources;
  waiting : l.self.waiting ≡ l.initial.self.waiting;
  count : l.self.count ≡ l.initial.self.count;
  failed : l.self.failed ≡ l.initial.self.failed;
  offers : (t : List Entry) (steps : List Step) (s : Stage) (xs : List Entry) (atoms : List ℕ) → HostDone t steps s l.entry xs atoms l.fn.self → IsOffers l.self.offers (past_after s.front.past (take l.point-index l.point-items)) s.done;
  works : (t : List Entry) (steps : List Step) (s : Stage) (xs : List Entry) (atoms : List ℕ) → HostDone t steps s l.entry xs atoms l.fn.self → AreWorks l.self.works.items (past_after s.front.past (take l.point-index l.point-items));
}
