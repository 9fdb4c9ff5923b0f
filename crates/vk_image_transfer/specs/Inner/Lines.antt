-- Texels in a line, each at its place in a region.
use Rattle.std.specs.Prelude.{◌≡◌, ℕ, ◌+◌, ◌*◌, ◌<◌, ◌≤◌, ◌==◌, if◌then◌else◌, List, slice_index}
use Rattle.vk_heap.specs.Region.{splice, piece}
use Rattle.vk_image_tiles.specs.Rows.{place_in}
use Rattle.vk_image_transfer.specs.declared.lines.Line.{Line}
use Rattle.vk_image_transfer.specs.declared.lines.Line.TheVariants as line

-- Where texel x of a line begins: texels of a buffer lie one after another, those of an image where its row has them.
abbrev pub line_place : Line → ℕ → ℕ
line_place (line.Buffer at texel) x = at + x * texel
line_place (line.Image start first row) x = start + place_in row (first + x)

-- The bytes of each texel.
abbrev pub line_texel : Line → ℕ
line_texel (line.Buffer at texel) = texel
line_texel (line.Image start first row) = row.texel

-- The number of its first texel in its row; in a buffer there is none.
abbrev pub line_first : Line → ℕ
line_first (line.Buffer at texel) = 0
line_first (line.Image start first row) = first

-- The first texels of a line, so many of t bytes, lie in some bytes.
pub record LineFits (l : Line) (count t size : ℕ) : Type 0 where
  pub texel : line_texel l ≡ t
  pub numbers : line_first l + count < 4294967296
  pub inside : (x : ℕ) → x < count → line_place l x + t ≤ size

-- Texels of a line share no byte.
abbrev pub LineApart : Line → (count t : ℕ) → Type 0
LineApart l count t = (x p u q : ℕ) → x < count → u < count → p < t → q < t → line_place l x + p ≡ line_place l u + q → x ≡ u

-- Texels of a line that are walked, from texel x on: they share no byte, and end within what a number of 64 bits counts.
pub record IsWalked (l : Line) (x count t : ℕ) : Type 0 where
  pub some : 0 < t
  pub there : x ≤ count
  pub fits : LineFits l count t 18446744073709551615
  pub apart : LineApart l count t

-- How many rows a region has; none where it has no texel.
abbrev pub rows_of : (width height layers : ℕ) → ℕ
rows_of width height layers = if width == 0 then 0 else layers * height

-- A region of memory with the bytes of pair k of some texels copied, from where they begin in another one.
abbrev pub pair_copied : List ℕ → (reads writes : List ℕ) → (size k : ℕ) → List ℕ → List ℕ
pair_copied source reads writes size k bytes = splice bytes (slice_index writes k) (piece source (slice_index reads k) size)

-- The same of four pairs, one after another.
abbrev pub pairs_copied : List ℕ → (reads writes : List ℕ) → (size : ℕ) → List ℕ → List ℕ
pairs_copied source reads writes size bytes =
    pair_copied source reads writes size 3 (pair_copied source reads writes size 2 (pair_copied source reads writes size 1 (pair_copied source reads writes size 0 bytes)))
