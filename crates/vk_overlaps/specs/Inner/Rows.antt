-- Rows of regions that have a byte of a buffer in common.
use Rattle.std.specs.Prelude.{ℕ, ◌*◌, Bool}
use Rattle.std.specs.List.{list_any}
use Rattle.vk_model.specs.declared.command.BufferImageCopy.{BufferImageCopy}
use Rattle.vk_model.specs.Basics.{below}
use Rattle.vk_model.specs.Memory.Suballocation.{ranges_meet}
use Rattle.vk_model.specs.World.Areas.{row_count, row_start}

-- Whether a row of a region has one of n bytes from o on, with texels of t bytes.
abbrev pub rows_have : ℕ → ℕ → ℕ → BufferImageCopy → Bool
rows_have t o n h = list_any (λ s. ranges_meet o n (row_start t h s) (h.width * t)) (below (row_count h))

-- Whether row r of a region has a byte in common with a row of another, with texels of t bytes.
abbrev pub row_meets_some : ℕ → BufferImageCopy → ℕ → BufferImageCopy → Bool
row_meets_some t g r h = rows_have t (row_start t g r) (g.width * t) h
