-- SUBRESOURCE: which numbers are compared.
use Rattle.std.specs.Prelude.{◌≡◌, ℕ, List, Option, Some, None, option_map, option_and_then, true, slice_get}
use Rattle.vk_model.specs.declared.command.Cmd.{Cmd}
use Rattle.vk_model.specs.declared.command.Cmd.TheVariants as cmd
use Rattle.vk_model.specs.declared.command.BufferImageCopy.{BufferImageCopy}
use Rattle.vk_model.specs.declared.command.Element.{Element}
use Rattle.vk_model.specs.declared.command.Element.TheVariants as element
use Rattle.vk_model.specs.declared.command.ImageCopy.{ImageCopy}
use Rattle.vk_model.specs.declared.command.SubresourceRange.{SubresourceRange}
use Rattle.vk_model.specs.declared.resource.ImageInfo.{ImageInfo}
use Rattle.vk_model.specs.Trace.Image.{level_width, level_height}
use Rattle.vk_model.specs.Trace.Point.{Past, Action, Run}
use Rattle.vk_model.specs.Trace.Objects.{image}
use Rattle.vk_model.specs.World.Areas.{Area, Texels, Subresources, region_box, source_box, destination_box}
use Rattle.vk_model.specs.Rules.Ranges.{is_beyond}
use Rattle.vk_rules.specs.declared.items.Item.{Item}
use Rattle.vk_rules.specs.declared.items.Item.TheVariants as item
use Rattle.vk_rules.specs.declared.spans.Axis.{Axis}
use Rattle.vk_rules.specs.declared.spans.Axis.TheVariants as axis
use Rattle.vk_rules.specs.declared.spans.Outside.{Outside}

-- ---- the areas of images that a command names

-- The subresources of a range of a clear.
abbrev pub ranges_at : ℕ → List SubresourceRange → Item → Option Area
ranges_at i rs (item.Range k) = option_map (Subresources i) (slice_get rs k)
ranges_at i rs _ = None

-- The texels of a region of a copy between a buffer and an image.
abbrev pub regions_at : ℕ → List BufferImageCopy → Item → Option Area
regions_at i gs (item.Region k) = option_map (λ g. Texels i (region_box g)) (slice_get gs k)
regions_at i gs _ = None

-- The texels that a region of an image copy reads, and those that it writes.
abbrev pub copies_at : ℕ → ℕ → List ImageCopy → Item → Option Area
copies_at s d gs (item.Source k) = option_map (λ g. Texels s (source_box g)) (slice_get gs k)
copies_at s d gs (item.Destination k) = option_map (λ g. Texels d (destination_box g)) (slice_get gs k)
copies_at s d gs _ = None

-- The subresources that a dependency element is on.
abbrev pub element_area : Element → Option Area
element_area (element.Image e) = Some (Subresources e.image e.range)
element_area _ = None

-- Those of an element of a barrier.
abbrev pub elements_at : List Element → Item → Option Area
elements_at es (item.Element k) = option_and_then element_area (slice_get es k)
elements_at es _ = None

-- The area of an image that an item of a command names.
abbrev pub area_at : Cmd → Item → Option Area
area_at (cmd.Clear i l color rs) q = ranges_at i rs q
area_at (cmd.CopyIn b i l gs) q = regions_at i gs q
area_at (cmd.CopyOut i l b gs) q = regions_at i gs q
area_at (cmd.CopyImage s l d m gs) q = copies_at s d gs q
area_at (cmd.Barrier es) q = elements_at es q
area_at _ q = None

-- ---- the numbers of an area

-- Numbers from one on, and how many the image has.
pub record Span : Type 0 where
  pub first : ℕ
  pub count : ℕ
  pub limit : ℕ

abbrev pub span : ℕ → ℕ → ℕ → Span
span first count limit = record { first = first; count = count; limit = limit }

-- The image of an area.
abbrev pub area_image : Area → Option ℕ
area_image (Texels i k) = Some i
area_image (Subresources i r) = Some i
area_image _ = None

-- The levels, layers, columns or rows that an area names, with how many the image has; of columns and rows, how many the level has (Vulkan, "Image Mip Level Sizing").
abbrev pub span_in : ImageInfo → Axis → Area → Option Span
span_in m axis.Levels (Texels i k) = Some (span k.level 1 m.levels)
span_in m axis.Layers (Texels i k) = Some (span k.first_layer k.layers m.layers)
span_in m axis.Columns (Texels i k) = Some (span k.x k.width (level_width m k.level))
span_in m axis.Rows (Texels i k) = Some (span k.y k.height (level_height m k.level))
span_in m axis.Levels (Subresources i r) = Some (span r.first_level r.levels m.levels)
span_in m axis.Layers (Subresources i r) = Some (span r.first_layer r.layers m.layers)
span_in m _ _ = None

-- ---- what is reported

-- One of some areas names these numbers of its image, and they aren't numbers of it.
abbrev pub IsOutsideOf : Past → (Item → Option Area) → Outside → Type 0
IsOutsideOf past areas o =
    (option_and_then area_image (areas o.item) ≡ Some o.image)
    × (option_and_then (λ m. option_and_then (span_in m o.axis) (areas o.item)) (image past o.image) ≡ Some (span o.first o.count o.limit))
    × (is_beyond o.limit o.first o.count ≡ true)

-- A command names these numbers of an image, and they aren't numbers of it.
abbrev pub IsOutside : Past → Cmd → Outside → Type 0
IsOutside past c o = IsOutsideOf past (area_at c) o

-- What is reported of an action that breaks SUBRESOURCE.
abbrev pub IsSubresource : Past → Action → Outside → Type 0
IsSubresource past (Run c) o = IsOutside past c o
IsSubresource past _ o = ⊥
