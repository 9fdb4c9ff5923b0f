use Rattle.std.proofs.Common.{◌≡◌}
use Rattle.vk_events.specs.Inner.Hanging.{IsHung}
use Rattle.vk_events.proofs.hanging.Hanging.add.Given as goal

abbrev pub invariant-loop-queue : goal.invariant-loop-queue
invariant-loop-queue l = IsHung l.initial.self.hooks l.self.hooks l.number l.counts l.done l.queue l.lacking
    × (l.self.lacking ≡ l.initial.self.lacking) × (l.self.met ≡ l.initial.self.met)
