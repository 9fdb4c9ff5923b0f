use Rattle.std.proofs.Common.{◌-◌, ◌<◌, ◌≤◌, ℕ, true}
use Rattle.vk_order.specs.SeenWrites.{SaysSeen}
use Rattle.vk_order.specs.Units.{unit_byte}
use Rattle.vk_order.proofs.frontier.Frontier.first_unseen.Given as goal

abbrev pub invariant-loop-at : goal.invariant-loop-at
invariant-loop-at l = (l.low ≤ l.at) × ((k : ℕ) → l.low ≤ k → k < l.at → SaysSeen l.self l.new_node l.write l.from l.access (unit_byte l.units k) true)

abbrev pub decreases-loop-at : goal.decreases-loop-at
decreases-loop-at l = l.high - l.at
