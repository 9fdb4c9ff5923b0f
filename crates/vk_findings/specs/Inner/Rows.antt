-- Rows of regions that have a byte of a buffer in common.
use Rattle.std.specs.Prelude.{ℕ, ◌*◌, Bool}
use Rattle.std.specs.List.{list_any}
use Rattle.vk_model.specs.declared.command.BufferImageCopy.{BufferImageCopy}
use Rattle.vk_model.specs.Basics.{below}
use Rattle.vk_model.specs.Memory.Suballocation.{ranges_meet}
use Rattle.vk_model.specs.World.Areas.{row_count, row_start}

-- Whether row r of a region has a byte in common with a row of another, with texels of t and u bytes.
abbrev pub row_meets_some : ℕ → BufferImageCopy → ℕ → ℕ → BufferImageCopy → Bool
row_meets_some t g r u h = list_any (λ s. ranges_meet (row_start t g r) (g.width * t) (row_start u h s) (h.width * u)) (below (row_count h))
