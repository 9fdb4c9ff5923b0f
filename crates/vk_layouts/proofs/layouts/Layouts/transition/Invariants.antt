use Rattle.std.proofs.Common.{◌≡◌, ◌&&◌, ℕ, [], nat_le, nat_lt, if◌then◌else◌, length, slice_index}
use Rattle.std.specs.Prelude.{slice_index_or}
use Rattle.vk_model.specs.Basics.{within}
use Rattle.vk_layouts.specs.ImageLayouts.{layout_at, HaveLayers}
use Rattle.vk_layouts.proofs.layouts.Layouts.transition.Given as goal

abbrev pub invariant-loop-level : goal.invariant-loop-level
invariant-loop-level l =
    record {
      levels : length l.self-inside.levels.items ≡ length l.fn.self.levels;
      layers : l.self-inside.layers ≡ l.fn.self.layers;
      have : HaveLayers l.fn.self.layers l.self-inside.levels.items;
      layouts : (level layer : ℕ) → slice_index (slice_index_or l.self-inside.levels.items level []) layer ≡ (if (nat_le l.first level && nat_lt level l.level) && within l.range.first_layer l.range.layers layer then l.layout else layout_at l.fn.self level layer);
    }
