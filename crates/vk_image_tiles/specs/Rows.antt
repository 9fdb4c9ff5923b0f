-- Rows of texels, and the stretches of them that lie together.
use Rattle.std.specs.Prelude.{◌≡◌, ◌≢◌, ℕ, ◌+◌, ◌*◌, ◌/◌, ◌<◌, ◌≤◌, List, slice_index}
use Rattle.vk_model.specs.declared.resource.Kind.{Kind}
use Rattle.vk_model.specs.declared.resource.Kind.TheVariants as kind
use Rattle.vk_model.specs.Memory.Addresses.{number_in_tile}
use Rattle.vk_image_tiles.specs.declared.rows.Run.{Run}

-- A row of texels: the place of its first texel, how the texels lie, and the bytes of each.
pub record TexelRow : Type 0 where
  pub first : ℕ
  pub texel : ℕ
  pub tiling : Kind

-- How many texels of memory lie from the first texel of a row to its texel x: in an optimal image 64 for each tile.
abbrev pub texels_to : Kind → ℕ → ℕ
texels_to kind.Linear x = x
texels_to kind.Optimal x = x / 8 * 64 + number_in_tile x 0

-- Where texel x of a row lies.
abbrev pub place_in : TexelRow → ℕ → ℕ
place_in row x = row.first + texels_to row.tiling x * row.texel

-- The first texels of a row, so many, end within some bytes.
abbrev pub EndWithin : ℕ → TexelRow → ℕ → Type 0
EndWithin size row count = (x : ℕ) → x < count → place_in row x + row.texel ≤ size

-- The longest stretch of a row, from texel x on and before an end, whose texels lie one after another.
pub record IsRun (row : TexelRow) (x end : ℕ) (run : Run) : Type 0 where
  pub starts : run.at ≡ place_in row x
  pub some : 0 < run.texels
  pub ends : x + run.texels ≤ end
  pub together : (k : ℕ) → k < run.texels → place_in row (x + k) ≡ run.at + k * row.texel
  pub longest : x + run.texels < end → place_in row (x + run.texels) ≢ run.at + run.texels * row.texel

-- Of eight texels from texel x on, each of some bytes and at its place, the first and the second lie one after another, and so on, and these are the places of the four pairs.
abbrev pub ArePairs : (ℕ → ℕ) → (texel x : ℕ) → List ℕ → Type 0
ArePairs place texel x starts = (k : ℕ) → k < 4 → (place (x + 2 * k) ≡ slice_index starts k) × (place (x + 2 * k + 1) ≡ slice_index starts k + texel)
