-- Which images have a shape, and what an image asks of memory.
use Rattle.std.specs.Prelude.{◌≡◌, ℕ, if◌then◌else◌, Option, Some, None, Result, Ok, Err}
use Rattle.vk_model.specs.declared.entry.Entry.TheVariants as entry
use Rattle.vk_model.specs.declared.layout.Format.{Format}
use Rattle.vk_model.specs.declared.resource.ImageInfo.{ImageInfo}
use Rattle.vk_model.specs.declared.resource.Kind.{Kind}
use Rattle.vk_model.specs.declared.resource.Need.{Need}
use Rattle.vk_model.specs.declared.resource.Place.TheVariants as place
use Rattle.vk_model.specs.declared.resource.Sharing.TheVariants as sharing
use Rattle.vk_model.specs.declared.rule.Rule.{Rule}
use Rattle.vk_model.specs.declared.rule.Rule.TheVariants as rule
use Rattle.vk_model.specs.Memory.Addresses.{need_of}
use Rattle.vk_model.specs.Rules.Sizes.{bad_image, bad_memory_size}
use Rattle.vk_model.specs.Trace.Objects.{of_image}

-- The first rule on sizes that an image breaks by its shape alone: SIZE, or else MEMORY_SIZE.
abbrev pub refusal : ImageInfo → Option Rule
refusal i = if bad_image i then Some rule.Size else if bad_memory_size (entry.Image 0 i) then Some rule.MemorySize else None

-- What comes of making the shape of an image: the shape, or the rule that refuses it.
abbrev pub IsMade : Result ImageInfo Rule → ImageInfo → Type 0
IsMade (Ok s) i = (refusal i ≡ None) × (s ≡ i)
IsMade (Err r) i = refusal i ≡ Some r

-- What an image asks of memory (Vulkan, "Resource Memory Association").
abbrev pub image_need : ImageInfo → Need
image_need i = need_of (of_image i)

-- The image of a shape that is given by its numbers alone: for no use, owned by nobody, with memory of its own. None of this says where its texels lie.
abbrev pub bare_image : Format → (width height levels layers : ℕ) → Kind → ImageInfo
bare_image format width height levels layers tiling = record { format = format; width = width; height = height; levels = levels; layers = layers; tiling = tiling; usage = record { 0 = 0 }; sharing = sharing.Concurrent; place = place.Dedicated 0 }
