use Rattle.std.proofs.Common.{◌≡◌, ℕ, Bool, List, length}
use Rattle.vk_events.specs.Inner.Hanging.{pairs_on, IsHanging}
use Rattle.vk_events.proofs.hanging.Hanging.settle.Given as goal

abbrev pub invariant-loop : goal.invariant-loop
invariant-loop l = (counts : List (List ℕ)) (low high : ℕ → ℕ) (taken : ℕ → Bool) → l.done ≡ high l.queue
    → IsHanging l.initial.self.hooks l.initial.self.lacking.items l.initial.self.met counts low high taken
    → IsHanging l.self.hooks l.self.lacking.items l.self.met counts low high taken

abbrev pub decreases-loop : goal.decreases-loop
decreases-loop l = length (pairs_on l.self.hooks l.queue)
