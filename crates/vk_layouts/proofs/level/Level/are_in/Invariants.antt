use Rattle.std.proofs.Common.{◌≡◌, ◌≤◌, ◌<◌, ℕ, slice_index}
use Rattle.vk_layouts.proofs.level.Level.are_in.Given as goal

abbrev pub invariant-loop-layer : goal.invariant-loop-layer
invariant-loop-layer l = (k : ℕ) → l.low ≤ k → k < l.layer → slice_index l.self-inside.layouts.items k ≡ l.layout
