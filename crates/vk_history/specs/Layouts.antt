-- The layouts that are kept of images, and what elements of barriers do to them.
use Rattle.std.specs.Prelude.{◌≡◌, ℕ, ◌&&◌, ◌||◌, ◌==◌, not, Bool, true, false, length, if◌then◌else◌, List, [], Option, Some, None, IfSome, IsSome, is_some, IsTrue, All}
use Rattle.std.specs.Ordering.{nat_cmp}
use Rattle.std.specs.BTreeMap.{get}
use Rattle.vk_model.specs.declared.command.Element.{Element}
use Rattle.vk_model.specs.declared.command.Element.TheVariants as element
use Rattle.vk_model.specs.declared.command.ImageElement.{ImageElement}
use Rattle.vk_model.specs.declared.command.SubresourceRange.{SubresourceRange}
use Rattle.vk_model.specs.declared.resource.ImageInfo.{ImageInfo}
use Rattle.vk_model.specs.Basics.{holds, within}
use Rattle.vk_model.specs.Trace.Objects.{image}
use Rattle.vk_model.specs.Trace.Point.{Past, Action, Run}
use Rattle.vk_model.specs.World.Ownership.{Transfer, Stays, Acquire, transfer, is_transition, elements_of}
use Rattle.vk_model.specs.World.Effect.{world}
use Rattle.vk_model.specs.Rules.Ranges.{bad_range}
use Rattle.vk_layouts.specs.ImageLayouts.{ImageLayouts, layout_at, IsWithin}
use Rattle.vk_history.specs.declared.layouts.CurrentLayouts.{CurrentLayouts}

-- ---- what elements do

-- Whether a transition takes place at this half of a transfer, or at none.
abbrev pub changes_layouts : Transfer → Bool
changes_layouts Stays = true
changes_layouts Acquire = true
changes_layouts _ = false

-- The image element that is a transition on a queue of a family.
abbrev pub transition_of : ℕ → Element → Option ImageElement
transition_of f (element.Image e) = if changes_layouts (transfer f e.families) && is_transition e then Some e else None
transition_of f _ = None

-- Whether the image of an element was made with the subresources that it names.
abbrev pub has_subresources : Past → ImageElement → Bool
has_subresources past e = holds (image past e.image) (λ m. not (bad_range m e.range))

-- The same of any element; only image elements name subresources.
abbrev pub is_there : Past → Element → Bool
is_there past (element.Image e) = has_subresources past e
is_there past _ = true

-- The elements of a barrier; an action that is none has none.
abbrev pub elements_at : Action → List Element
elements_at (Run c) = elements_of c
elements_at _ = []

-- Those of all elements were.
abbrev pub AreThere : Past → List Element → Type 0
AreThere past es = All (λ e. IsTrue (is_there past e)) es

-- ---- what is kept

-- The layout kept of a subresource; all are UNDEFINED where none is kept.
abbrev pub kept_layout : Option ImageLayouts → ℕ → ℕ → ℕ
kept_layout None level layer = 0
kept_layout (Some s) level layer = layout_at s level layer

-- Whether all subresources of a range are in a layout, where all are UNDEFINED.
abbrev pub is_in_undefined : SubresourceRange → ℕ → Bool
is_in_undefined r layout = r.levels == 0 || r.layers == 0 || layout == 0

-- Layouts are of as many levels and layers as an image has.
pub record AreOf (m : ImageInfo) (s : ImageLayouts) : Type 0 where
  pub levels : length s.levels ≡ m.levels
  pub layers : s.layers ≡ m.layers

-- Layouts are those of an image that was made.
abbrev pub AreOfImage : Past → ℕ → ImageLayouts → Type 0
AreOfImage past i s = (m : ImageInfo) × (image past i ≡ Some m) × AreOf m s

-- The layouts of all images are kept.
pub record AreKept (t : CurrentLayouts) (past : Past) (layouts : ℕ → ℕ → ℕ → ℕ) : Type 0 where
  pub layouts_are : (i level layer : ℕ) → kept_layout (get nat_cmp t.images i) level layer ≡ layouts i level layer
  pub sizes : (i : ℕ) → IfSome (get nat_cmp t.images i) (AreOfImage past i)

-- The current layouts of a past are kept.
abbrev pub AreCurrent : CurrentLayouts → Past → Type 0
AreCurrent t past = AreKept t past (world past).layout

-- ---- changes of what is kept

-- The layouts of an image that was just made.
pub record IsNew (m : ImageInfo) (s : ImageLayouts) : Type 0 where
  pub size : AreOf m s
  pub undefined : (level layer : ℕ) → layout_at s level layer ≡ 0

-- There are layouts of an image, if it was made, and those that were kept before are.
pub record HasRoom (old new : CurrentLayouts) (past : Past) (i : ℕ) : Type 0 where
  pub there : IsTrue (is_some (image past i)) → IsSome (get nat_cmp new.images i)
  pub kept : (layouts : ℕ → ℕ → ℕ → ℕ) → AreKept old past layouts → AreKept new past layouts

-- The subresources of an element are in its new layout, if the image has them.
pub record IsSet (old new : ImageLayouts) (e : ImageElement) : Type 0 where
  pub levels : length new.levels ≡ length old.levels
  pub layers : new.layers ≡ old.layers
  pub layouts : IsWithin old e.range
      → (level layer : ℕ) → layout_at new level layer ≡ (if within e.range.first_level e.range.levels level && within e.range.first_layer e.range.layers layer then e.new_layout else layout_at old level layer)

-- The same of layouts that may not be kept.
abbrev pub SetIn : Option ImageLayouts → Option ImageLayouts → ImageElement → Type 0
SetIn None new e = new ≡ None
SetIn (Some old) None e = ⊥
SetIn (Some old) (Some new) e = IsSet old new e
