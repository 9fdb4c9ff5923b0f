use Rattle.std.proofs.Common.{◌<◌, ◌≤◌, ℕ, Bool, List, nat_lt, slice_index}
use Rattle.std.specs.Prelude.{if◌then◌else◌}
use Rattle.vk_events.specs.Inner.Hanging.{IsHanging}
use Rattle.vk_events.proofs.hanging.Hanging.advance.Given as goal

abbrev pub invariant-loop-queue : goal.invariant-loop-queue
invariant-loop-queue l = (counts : List (List ℕ)) (low : ℕ → ℕ) (taken : ℕ → Bool) → ((q : ℕ) → q < 4 → low q ≤ slice_index l.done q)
    → IsHanging l.initial.self.hooks l.initial.self.lacking.items l.initial.self.met counts low low taken
    → IsHanging l.self.hooks l.self.lacking.items l.self.met counts (λ q. if nat_lt q l.queue then slice_index l.done q else low q) (slice_index l.done) taken
