use Rattle.std.proofs.Common.{◌≡◌, ℕ, ◌-◌, ◌<◌, ◌≤◌, false}
use Rattle.vk_model.specs.Sync.Node.{Node}
use Rattle.vk_model.specs.World.Bytes.{in_buffer}
use Rattle.vk_hazards.specs.Hazards.{is_missing}
use Rattle.vk_hazards.specs.Inner.Pairs.{IsPair}
use Rattle.vk_hazards.proofs.past.Past.missing_in_bytes.Given as goal

abbrev pub invariant-loop-at : goal.invariant-loop-at
invariant-loop-at l = record {
  low : l.low ≤ l.at;
  none : (x y : Node) → IsPair l.self l.pair x y → (k : ℕ) → l.low ≤ k → k < l.at → is_missing l.self l.hazard x y (in_buffer l.buffer k) ≡ false;
}

abbrev pub decreases-loop-at : goal.decreases-loop-at
decreases-loop-at l = l.high - l.at
