use Rattle.std.proofs.Common.{◌≡◌, ◌-◌, ℕ, take}
use Rattle.vk_history.specs.Counted.{count_at}
use Rattle.vk_history.specs.Uses.{times_by}
use Rattle.vk_history.proofs.used.discount_elements.Given as goal

abbrev pub invariant-loop-element : goal.invariant-loop-element
invariant-loop-element l = (r : ℕ) → count_at l.counts r ≡ count_at l.fn.counts r - times_by r (take l.element-index l.elements)
