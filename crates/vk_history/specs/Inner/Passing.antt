-- What the elements of a barrier make of what is kept of the bytes of resources.
use Rattle.std.specs.Prelude.{IsTrue, All, ◌≡◌, ◌<◌, ℕ, List, [], ◌∷◌, length, Bool, true, not, ◌&&◌, if◌then◌else◌, Some, is_some}
use Rattle.vk_model.specs.declared.command.BufferElement.{BufferElement}
use Rattle.vk_model.specs.declared.command.Element.{Element}
use Rattle.vk_model.specs.declared.command.Element.TheVariants as element
use Rattle.vk_model.specs.declared.command.ImageElement.{ImageElement}
use Rattle.vk_model.specs.declared.command.SubresourceRange.{SubresourceRange}
use Rattle.vk_model.specs.declared.resource.ImageInfo.{ImageInfo}
use Rattle.vk_model.specs.Basics.{holds}
use Rattle.vk_model.specs.Rules.Sizes.{bad_image}
use Rattle.vk_model.specs.Sync.Node.{Node}
use Rattle.vk_model.specs.Trace.Objects.{image, resource}
use Rattle.vk_model.specs.Trace.Point.{Past, Point}
use Rattle.vk_model.specs.World.Bytes.{Byte, World, Released}
use Rattle.vk_model.specs.World.Effect.{in_range, used, set_owner, transitioned, after_element, after_buffer_element, after_image_element}
use Rattle.vk_model.specs.World.Ownership.{family_of, Transfer, is_transition}
use Rattle.vk_order.specs.Barriers.{element_node}
use Rattle.vk_order.specs.Lines.{place, class_of}
use Rattle.vk_image_bytes.specs.Numbers.{byte_count, byte_of}
use Rattle.vk_touches.specs.declared.touches.LastTouches.{LastTouches}
use Rattle.vk_touches.specs.declared.touches.Spot.{Spot}
use Rattle.vk_touches.specs.Remembered.{with_transition}
use Rattle.vk_touches.specs.TouchedRanges.{transitioning}
use Rattle.vk_touches.specs.Touched.{is_transition_of}
use Rattle.vk_history.specs.declared.element_spots.ElementSpots.{ElementSpots}
use Rattle.vk_history.specs.declared.resource_contents.ResourceContents.{ResourceContents}
use Rattle.vk_history.specs.Contents.{AreContentsAt, IsChanged, as_before}
use Rattle.vk_history.specs.Uses.{AreElementCounts}

-- Whether an image is there, of a shape that breaks no rule on sizes.
abbrev pub is_good_image : Past → ℕ → Bool
is_good_image past i = holds (image past i) (λ m. not (bad_image m))

-- Whether an element is on all memory, or on a buffer or such an image that is there.
abbrev pub is_on_resource : Past → Element → Bool
is_on_resource past (element.Memory d) = true
is_on_resource past (element.Buffer e) = is_some (resource past e.buffer)
is_on_resource past (element.Image e) = is_good_image past e.image

-- All elements are.
abbrev pub AreOnResources : Past → List Element → Type 0
AreOnResources past es = All (λ e. IsTrue (is_on_resource past e)) es

-- What a byte remembers when the element of a barrier has come, whose node is at a spot (Vulkan, "Image Layout Transitions").
abbrev pub touched_by : Past → ℕ → Element → Spot → (Byte → LastTouches) → Byte → LastTouches
touched_by past q e s t b = if is_transition_of past q b e then with_transition (t b) s else t b

-- Where a node comes next, after some nodes.
abbrev pub spot_after : List Node → Node → Spot
spot_after ns n = record { line = class_of n; place = place ns (class_of n) (length ns); number = length ns }

-- What a byte remembers when the elements of a point's barrier have come after some nodes, one after another.
abbrev pub touched_by_all : Past → Point → List Node → List Element → (Byte → LastTouches) → Byte → LastTouches
touched_by_all past p ns [] t = t
touched_by_all past p ns (e ∷ es) t = touched_by_all past p (element_node p (length ns) e ∷ ns) es (touched_by past p.queue e (spot_after ns (element_node p (length ns) e)) t)

-- The spots of elements that come next on a queue are counted.
pub record AreSpots (spots : ElementSpots) (q : ℕ) (ns : List Node) : Type 0 where
  pub queue : spots.queue ≡ q
  pub counts : AreElementCounts spots.counts q ns
  pub number : spots.number ≡ length ns

-- After a use by a family, and a release.
abbrev pub IsReleased : ℕ → ResourceContents → ResourceContents → Type 0
IsReleased f old new = (past : Past) (w : World) (t : Byte → LastTouches) (r : ℕ) (e : Element) → AreContentsAt old past w t r → AreContentsAt new past (set_owner r (Released f e) (used past f r w)) t r

-- After what an element on the buffer does on a queue of a family, wherever it is.
abbrev pub IsPassed : ℕ → Transfer → ResourceContents → ResourceContents → Type 0
IsPassed f x old new = (past : Past) (w : World) (t : Byte → LastTouches) (e : BufferElement) → AreContentsAt old past w t e.buffer → AreContentsAt new past (after_buffer_element past f e x w) t e.buffer

-- After the layout transition of an element, if it is one.
abbrev pub IsTransitioned : ImageElement → ResourceContents → ResourceContents → Type 0
IsTransitioned e old new = (past : Past) (w : World) (t : Byte → LastTouches) → is_good_image past e.image ≡ true → AreContentsAt old past w t e.image → AreContentsAt new past (transitioned e w) t e.image

-- After one that is a use by a family.
abbrev pub IsUsedByTransition : ℕ → ImageElement → ResourceContents → ResourceContents → Type 0
IsUsedByTransition f e old new = (past : Past) (w : World) (t : Byte → LastTouches) → is_good_image past e.image ≡ true → AreContentsAt old past w t e.image → AreContentsAt new past (if is_transition e then transitioned e (used past f e.image w) else w) t e.image

-- After what an element on the image does with its bytes and its owner on a queue of a family.
abbrev pub IsHandedOver : ℕ → Transfer → ImageElement → ResourceContents → ResourceContents → Type 0
IsHandedOver f x e old new = (past : Past) (w : World) (t : Byte → LastTouches) → is_good_image past e.image ≡ true → AreContentsAt old past w t e.image → AreContentsAt new past (after_image_element past f e x w) t e.image

-- After the layout transition of a spot, if there is one, has read and written some levels and layers.
pub record IsMarked (moves : Bool) (r : SubresourceRange) (s : Spot) (old new : ResourceContents) : Type 0 where
  pub hits : ℕ → Bool
  pub reached : (m : ImageInfo) → old.image ≡ Some m → (i k : ℕ) → k < byte_count m → hits k ≡ (moves && in_range i r (byte_of m i k))
  pub changed : IsChanged old new old.owner as_before as_before (transitioning hits s)

-- After an element on the image has come on a queue, whose node is at a spot.
abbrev pub IsImagePassed : ℕ → ImageElement → Spot → ResourceContents → ResourceContents → Type 0
IsImagePassed q e s old new = (past : Past) (w : World) (t : Byte → LastTouches) → is_good_image past e.image ≡ true → AreContentsAt old past w t e.image
    → AreContentsAt new past (after_element past (family_of q) w (element.Image e)) (touched_by past q (element.Image e) s t) e.image
