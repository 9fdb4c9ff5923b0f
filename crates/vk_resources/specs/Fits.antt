-- What is taken for granted of the commands and entries that come. Those that break no rule have it.
use Rattle.std.specs.Prelude.{◌≡◌, ℕ, ◌+◌, ◌*◌, ◌/◌, ◌<◌, ◌≤◌, ◌==◌, List, All, Contains, length, Bool, false, Option, Some, None, IsTrue, IsSomeAnd, option_and_then, ⊤}
use Rattle.std.specs.List.{list_any}
use Rattle.vk_model.specs.declared.command.Cmd.{Cmd}
use Rattle.vk_model.specs.declared.command.Cmd.TheVariants as cmd
use Rattle.vk_model.specs.declared.command.BufferImageCopy.{BufferImageCopy}
use Rattle.vk_model.specs.declared.command.ImageCopy.{ImageCopy}
use Rattle.vk_model.specs.declared.command.SubresourceRange.{SubresourceRange}
use Rattle.vk_model.specs.declared.command.Length.{Length}
use Rattle.vk_model.specs.declared.command.Length.TheVariants as length_of
use Rattle.vk_model.specs.declared.entry.Entry.{Entry}
use Rattle.vk_model.specs.declared.entry.Entry.TheVariants as entry
use Rattle.vk_model.specs.declared.resource.BufferInfo.{BufferInfo}
use Rattle.vk_model.specs.declared.resource.ImageInfo.{ImageInfo}
use Rattle.vk_model.specs.declared.resource.Place.{Place}
use Rattle.vk_model.specs.declared.resource.Place.TheVariants as place
use Rattle.vk_model.specs.Basics.{holds}
use Rattle.vk_model.specs.Trace.Point.{Past}
use Rattle.vk_model.specs.Trace.Objects.{made, ended, live, live_resources, memory_of, buffer, buffer_in, image, pool_in, Resource, of_buffer, of_image}
use Rattle.vk_model.specs.Trace.Objects.{pool_of as resources_pool}
use Rattle.vk_model.specs.Memory.Suballocation.{IsRequest}
use Rattle.vma_blocks.specs.PoolInfos.{IsPoolInfo}
use Rattle.vk_model.specs.Trace.Image.{texel, image_size}
use Rattle.vk_model.specs.Rules.Sizes.{bad_image}
use Rattle.vk_model.specs.World.Areas.{region_box, source_box, destination_box, boxes_meet}
use Rattle.vk_model.specs.World.ByteWrites.{buffer_size, fill_size}
use Rattle.vk_model.specs.Rules.Ids.{is_memory, is_pool, is_resource, asked_by_command}
use Rattle.vk_model.specs.Rules.Binding.{ends_past_memory, is_aliased, is_misplaced}
use Rattle.vk_image_transfer.specs.Pieces.{RangeFits}
use Rattle.vk_image_transfer.specs.Rows.{BoxFits, RegionFits}
use Rattle.vk_transfer.specs.Copies.{FitsBuffers}

-- ---- commands

-- A fill lies in a buffer that was made, and writes whole words (Vulkan, "Filling Buffers").
abbrev pub FitsFill : Option BufferInfo → ℕ → Length → Type 0
FitsFill None o n = ⊥
FitsFill (Some i) o n = (o ≤ i.size) × (o + fill_size i.size o n ≤ i.size) × (fill_size i.size o n ≡ 4 * (fill_size i.size o n / 4))

-- The ranges of a clear are the image's, and no more than it has subresources, since no two meet (Vulkan, "Clearing Images Outside a Render Pass Instance"; that they don't meet: profile).
abbrev pub FitsClear : Option ImageInfo → List SubresourceRange → Type 0
FitsClear None rs = ⊥
FitsClear (Some m) rs = All (RangeFits m) rs × (length rs ≤ m.levels * m.layers)

-- Each region of a copy between a buffer and an image lies in an image that was made, and its texels in a buffer of this size (Vulkan, "Copying Data Between Buffers and Images").
abbrev pub FitsRegions : Option ImageInfo → ℕ → List BufferImageCopy → Type 0
FitsRegions None size gs = ⊥
FitsRegions (Some m) size gs = All (λ g. BoxFits m (region_box g) × RegionFits g (texel m.format) size) gs

-- The boxes that are read and written within one image don't meet; others have nothing in common (Vulkan, "Copying Data Between Images").
abbrev pub KeepsApart : (s d : ℕ) → ImageCopy → Type 0
KeepsApart s d g = s ≡ d → boxes_meet (source_box g) (destination_box g) ≡ false

-- Each region of a copy between images lies in both, which were made and have texels of one size (Vulkan, "Copying Data Between Images", also on size-compatible formats).
abbrev pub FitsImages : (s d : ℕ) → Option ImageInfo → Option ImageInfo → List ImageCopy → Type 0
FitsImages s d None to gs = ⊥
FitsImages s d (Some from) None gs = ⊥
FitsImages s d (Some from) (Some to) gs = (texel from.format ≡ texel to.format) × All (λ g. BoxFits from (source_box g) × BoxFits to (destination_box g) × KeepsApart s d g) gs

-- A command fits: a fill, an update and each region of a copy lie in buffers and images that were made, as do the ranges of a clear (Vulkan, "Clear Commands" and "Copy Commands"); a barrier, and a set or an await of an event, ask nothing (Vulkan, "Pipeline Barriers" and "Events").
abbrev pub FitsCommand : Past → Cmd → Type 0
FitsCommand past (cmd.Fill b o n w) = FitsFill (buffer past b) o n
FitsCommand past (cmd.Update b o bytes) = o + length bytes ≤ buffer_size past b
FitsCommand past (cmd.Copy s d gs) = All (λ g. FitsBuffers g (buffer_size past s) (buffer_size past d)) gs
FitsCommand past (cmd.Clear i l color rs) = FitsClear (image past i) rs
FitsCommand past (cmd.CopyIn b i l gs) = FitsRegions (image past i) (buffer_size past b) gs
FitsCommand past (cmd.CopyOut i l b gs) = FitsRegions (image past i) (buffer_size past b) gs
FitsCommand past (cmd.CopyImage s l d m gs) = FitsImages s d (image past s) (image past d) gs
FitsCommand past (cmd.Barrier es) = ⊤
FitsCommand past (cmd.Set v ms) = ⊤
FitsCommand past (cmd.Await v ms) = ⊤

-- Each object that a command names is live, and of the kind that it needs (Vulkan, "Object Lifetime").
abbrev pub NamesLive : Past → Cmd → Type 0
NamesLive past c = (i : ℕ) (kind : Entry → Bool) → Contains (asked_by_command c) (i, kind) → IsTrue (holds (live past i) kind)

-- ---- entries

-- No entry has made or ended an id (profile).
pub record IsUnused (past : Past) (i : ℕ) : Type 0 where
  pub unmade : made past i ≡ None
  pub unended : ended past i ≡ false

-- A resource may be put in the blocks of a live pool: it is no larger than one, and asks for what may be asked for (VMA, "Custom memory pools"; units: profile).
abbrev pub FitsPool : Past → Resource → ℕ → Type 0
FitsPool past r p = IsSomeAnd (option_and_then pool_in (live past p)) (λ info. r.size ≤ info.block_size) × IsRequest r.size r.align

-- A resource has a memory object of its own or a place in a live pool, or is bound in a memory object that is live, at an offset that is aligned, ends in it, and meets no live resource there (Vulkan, "Resource Memory Association" and "Memory Aliasing"; VMA, "Choosing memory type", on dedicated allocations).
abbrev pub FitsPlace : Past → Resource → Place → Type 0
FitsPlace past r (place.Dedicated t) = ⊤
FitsPlace past r (place.Memory m o) = IsTrue (holds (live past m) is_memory) × (ends_past_memory past r m o ≡ false) × (is_aliased past r m o ≡ false) × (is_misplaced past r m o ≡ false)
FitsPlace past r (place.Pool p) = FitsPool past r p
FitsPlace past r (place.PoolUpper p) = FitsPool past r p

-- A new buffer is of a new id, of a size above 0 and up to 67,108,864 (profile), and its place fits.
pub record FitsBuffer (past : Past) (i : ℕ) (info : BufferInfo) : Type 0 where
  pub unused : IsUnused past i
  pub some : 0 < info.size
  pub bounded : info.size ≤ 67108864
  pub place : FitsPlace past (of_buffer info) info.place

-- A new image is of a new id, breaks no rule on its shape, asks for at most 67,108,864 bytes (profile), and its place fits (Vulkan, "Images").
pub record FitsImage (past : Past) (i : ℕ) (info : ImageInfo) : Type 0 where
  pub unused : IsUnused past i
  pub shaped : bad_image info ≡ false
  pub bounded : image_size info info.tiling ≤ 67108864
  pub place : FitsPlace past (of_image info) info.place

-- Whether a live resource is bound to a memory object (Vulkan, "Resource Memory Association").
abbrev pub is_occupied : Past → ℕ → Bool
is_occupied past m = list_any (λ r. holds (memory_of past r) (λ s. m == s)) (live_resources past)

-- Whether a live resource is in a pool (VMA, "Custom memory pools").
abbrev pub is_populated : Past → ℕ → Bool
is_populated past p = list_any (λ r. holds (resources_pool past r) (λ q. p == q)) (live_resources past)

-- A range lies in a buffer that is live (Vulkan, "Host Access to Device Memory Objects").
abbrev pub FitsRange : Option BufferInfo → ℕ → ℕ → Type 0
FitsRange None o n = ⊥
FitsRange (Some i) o n = o + n ≤ i.size

-- The same of a range that may go to the end, and then begins before it.
abbrev pub FitsLength : Option BufferInfo → ℕ → Length → Type 0
FitsLength i o (length_of.Bytes n) = FitsRange i o n
FitsLength None o length_of.Whole = ⊥
FitsLength (Some i) o length_of.Whole = o < i.size

-- An entry makes a new object, of some bytes; frees a live memory object to which no live resource is bound; destroys a live resource; makes a pool, or ends one that is live and in which no live resource is; writes, reads, flushes or invalidates in a live buffer; or asks nothing of the device (Vulkan, valid usage of these calls).
abbrev pub FitsEntry : Past → Entry → Type 0
FitsEntry past (entry.Buffer i info) = FitsBuffer past i info
FitsEntry past (entry.Image i info) = FitsImage past i info
FitsEntry past (entry.Memory i m) = IsUnused past i × (0 < m.size)
FitsEntry past (entry.Free m) = IsTrue (holds (live past m) is_memory) × (is_occupied past m ≡ false)
FitsEntry past (entry.Destroy r) = IsTrue (holds (live past r) is_resource)
FitsEntry past (entry.Write b o bytes) = FitsRange (option_and_then buffer_in (live past b)) o (length bytes)
FitsEntry past (entry.Read b o n) = FitsRange (option_and_then buffer_in (live past b)) o n
FitsEntry past (entry.Flush b o n) = FitsLength (option_and_then buffer_in (live past b)) o n
FitsEntry past (entry.Invalidate b o n) = FitsLength (option_and_then buffer_in (live past b)) o n
FitsEntry past (entry.Pool i info) = IsUnused past i × IsPoolInfo info
FitsEntry past (entry.DropPool p) = IsTrue (holds (live past p) is_pool) × (is_populated past p ≡ false)
FitsEntry past (entry.Semaphore i v) = IsUnused past i
FitsEntry past (entry.Event i) = IsUnused past i
FitsEntry past (entry.Map b) = ⊤
FitsEntry past (entry.Unmap b) = ⊤
FitsEntry past (entry.Signal s v) = ⊤
FitsEntry past (entry.Wait ws) = ⊤
FitsEntry past (entry.Submit q bs) = ⊤
FitsEntry past _ = ⊥
