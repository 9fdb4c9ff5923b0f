-- What a command is made ready with.
use Rattle.std.specs.Prelude.{◌≡◌, ℕ, List, [], length}
use Rattle.vk_model.specs.declared.command.Cmd.{Cmd}
use Rattle.vk_model.specs.declared.command.Cmd.TheVariants as cmd
use Rattle.std.specs.List.{sum_by}
use Rattle.vk_model.specs.declared.command.ImageCopy.{ImageCopy}
use Rattle.vk_model.specs.World.Areas.{row_count}
use Rattle.vk_image_transfer.specs.Pieces.{copy_rows}
use Rattle.vk_transfer.specs.Copies.{copy_pieces}
use Rattle.vk_resources.specs.declared.work.Regions.{Regions}
use Rattle.vk_resources.specs.declared.work.Regions.TheVariants.{Without, OfBuffers, OfBoth, OfImages}

-- A copy has the pieces of its regions, and another command none.
abbrev pub AreCopied : Cmd → Regions → Type 0
AreCopied (cmd.Copy s d gs) (OfBuffers regions) = regions ≡ gs
AreCopied (cmd.Copy s d gs) _ = ⊥
AreCopied (cmd.CopyIn b i l gs) (OfBoth regions) = regions ≡ gs
AreCopied (cmd.CopyIn b i l gs) _ = ⊥
AreCopied (cmd.CopyOut i l b gs) (OfBoth regions) = regions ≡ gs
AreCopied (cmd.CopyOut i l b gs) _ = ⊥
AreCopied (cmd.CopyImage s l d m gs) (OfImages regions) = regions ≡ gs
AreCopied (cmd.CopyImage s l d m gs) _ = ⊥
AreCopied _ regions = regions ≡ Without

-- How many pieces the regions of a copy have, which is the same for all resources (profile).
abbrev pub regions_count : Regions → ℕ
regions_count Without = 0
regions_count (OfBuffers gs) = length (copy_pieces 0 0 gs)
regions_count (OfBoth gs) = sum_by row_count gs
regions_count (OfImages gs) = sum_by copy_rows gs

-- A command is no fill, no update and no copy between buffers: it is run on images, or not at all.
abbrev pub IsForImages : Cmd → Type 0
IsForImages (cmd.Fill b o n w) = ⊥
IsForImages (cmd.Update b o bytes) = ⊥
IsForImages (cmd.Copy s d gs) = ⊥
IsForImages _ = Unit {0}

-- A command is a copy between a buffer and an image.
abbrev pub IsForBoth : Cmd → Type 0
IsForBoth (cmd.CopyIn b i l gs) = Unit {0}
IsForBoth (cmd.CopyOut i l b gs) = Unit {0}
IsForBoth _ = ⊥

-- A command is a copy between images.
abbrev pub IsForTwo : Cmd → Type 0
IsForTwo (cmd.CopyImage s l d m gs) = Unit {0}
IsForTwo _ = ⊥

-- The regions of a copy between images.
abbrev pub image_regions_of : Cmd → List ImageCopy
image_regions_of (cmd.CopyImage s l d m gs) = gs
image_regions_of _ = []
