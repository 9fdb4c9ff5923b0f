-- Ranges of subresources, of which an image may have only some.
use Rattle.std.specs.Prelude.{◌≡◌, ◌<◌, ℕ, ◌+◌, ◌==◌, ◌&&◌, ◌||◌, nat_le, Bool, length, IsTrue}
use Rattle.vk_model.specs.declared.command.SubresourceRange.{SubresourceRange}
use Rattle.vk_model.specs.Basics.{within}
use Rattle.vk_layouts.specs.ImageLayouts.{ImageLayouts, layout_at}

-- Whether an image has all subresources of a range.
abbrev pub has_range : ImageLayouts → SubresourceRange → Bool
has_range s r = r.levels == 0 || r.layers == 0 || nat_le (r.first_level + r.levels) (length s.levels) && nat_le (r.first_layer + r.layers) s.layers

-- Whether a range may be in a layout, as what the image doesn't have is UNDEFINED.
abbrev pub may_be_in : ImageLayouts → SubresourceRange → ℕ → Bool
may_be_in s r layout = layout == 0 || has_range s r

-- Those that it has are in a layout.
abbrev pub AreIn : ImageLayouts → SubresourceRange → ℕ → Type 0
AreIn s r layout =
    (level layer : ℕ) → IsTrue (within r.first_level r.levels level) → IsTrue (within r.first_layer r.layers layer) → level < length s.levels → layer < s.layers → layout_at s level layer ≡ layout
