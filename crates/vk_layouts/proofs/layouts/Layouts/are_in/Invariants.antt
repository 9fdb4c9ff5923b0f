use Rattle.std.proofs.Common.{◌≡◌, ◌≤◌, ◌<◌, ℕ, [], slice_index}
use Rattle.std.specs.Prelude.{slice_index_or}
use Rattle.vk_layouts.proofs.layouts.Layouts.are_in.Given as goal

abbrev pub invariant-loop-level : goal.invariant-loop-level
invariant-loop-level l =
    (k m : ℕ) → l.initial.level ≤ k → k < l.level → l.layers.start ≤ m → m < l.layers.end → slice_index (slice_index_or l.self-inside.levels.items k []) m ≡ l.layout
