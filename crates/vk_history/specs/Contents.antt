-- What is kept of the bytes of buffers and images.
use Rattle.std.specs.Prelude.{◌≢◌, ◌*◌, ◌^◌, ◌≡◌, ◌≤◌, ◌<◌, ◌+◌, ◌-◌, ℕ, List, length, slice_get, Bool, true, false, not, ◌&&◌, ◌==◌, nat_le, nat_lt, if◌then◌else◌, Option, Some, None, is_some, is_none, unwrap_or, option_and_then, Contains}
use Rattle.std.specs.Option.{option_map}
use Rattle.std.specs.List.{list_any, find}
use Rattle.vk_ids.specs.Ids.{value_of}
use Rattle.vk_model.specs.declared.command.BufferCopy.{BufferCopy}
use Rattle.vk_model.specs.declared.command.Length.{Length}
use Rattle.vk_model.specs.declared.command.SubresourceRange.{SubresourceRange}
use Rattle.vk_model.specs.declared.resource.ImageInfo.{ImageInfo}
use Rattle.vk_model.specs.declared.resource.Sharing.{Sharing}
use Rattle.vk_model.specs.Basics.{holds, within}
use Rattle.vk_model.specs.World.Bytes.{Byte, in_buffer, resource_at, World, Owner, Nobody, Family, Released}
use Rattle.vk_model.specs.World.ByteWrites.{buffer_size, fill_size}
use Rattle.vk_model.specs.World.Effect.{world, in_atoms, in_range}
use Rattle.vk_model.specs.World.Ownership.{family_of}
use Rattle.vk_model.specs.Trace.Objects.{image, resource, is_cached, is_exclusive, is_exclusive_mode}
use Rattle.vk_model.specs.Trace.Point.{Past}
use Rattle.vk_image_bytes.specs.declared.ranges.ByteRanges.{ByteRanges}
use Rattle.vk_image_bytes.specs.Numbers.{byte_count, byte_of}
use Rattle.vk_history.specs.declared.resource_contents.ResourceContents.{ResourceContents}
use Rattle.vk_history.specs.declared.contents.Contents.{Contents}
use Rattle.vk_history.specs.declared.stretches.Stretch.{Stretch}
use Rattle.vk_touches.specs.declared.bytes.Bytes.{Bytes}
use Rattle.vk_touches.specs.declared.bytes.Bytes.TheVariants as bytes
use Rattle.vk_touches.specs.Bytes.{numbered_byte, HaveNumbers}
use Rattle.vk_touches.specs.declared.touches.LastTouches.{LastTouches}
use Rattle.vk_touches.specs.declared.touches.Spot.{Spot}
use Rattle.vk_touches.specs.declared.touches.Touch.TheVariants as touch
use Rattle.vk_touches.specs.Remembered.{untouched}
use Rattle.vk_touches.specs.TouchedRanges.{touching, flushing, invalidating, sees_at, reads_at, writes_at}
use Rattle.vk_touches.specs.Touched.{touched}

-- ---- changes

-- The contents of a resource that was just made, with so many bytes, in memory with a cache or without; of an image by its numbers.
pub record IsMade (c : ResourceContents) (size : ℕ) (sharing : Sharing) (cached : Bool) (of : Option ImageInfo) : Type 0 where
  pub defined_size : length c.defined ≡ size
  pub dirty_size : length c.dirty ≡ size
  pub touches_size : length c.touches ≡ size
  pub undefined : (k : ℕ) → k < size → slice_get c.defined k ≡ Some false
  pub clean : (k : ℕ) → k < size → slice_get c.dirty k ≡ Some false
  pub cache : c.is_cached ≡ cached
  pub unread : (k : ℕ) → k < size → slice_get c.touches k ≡ Some untouched
  pub mode : c.is_exclusive ≡ is_exclusive_mode sharing
  pub image : c.image ≡ of
  pub nobody : c.owner ≡ None

-- After a change: the owner, whether each byte is defined, whether it is dirty, and what it remembers, by what was so before.
pub record IsChanged (old new : ResourceContents) (owner : Option ℕ) (define soil : ℕ → Bool → Bool) (touch : ℕ → LastTouches → LastTouches) : Type 0 where
  pub defined_size : length new.defined ≡ length old.defined
  pub dirty_size : length new.dirty ≡ length old.dirty
  pub touches_size : length new.touches ≡ length old.touches
  pub mode : new.is_exclusive ≡ old.is_exclusive
  pub cache : new.is_cached ≡ old.is_cached
  pub image : new.image ≡ old.image
  pub owned : new.owner ≡ owner
  pub defined : (k : ℕ) → slice_get new.defined k ≡ option_map (define k) (slice_get old.defined k)
  pub dirty : (k : ℕ) → slice_get new.dirty k ≡ option_map (soil k) (slice_get old.dirty k)
  pub touches : (k : ℕ) → slice_get new.touches k ≡ option_map (touch k) (slice_get old.touches k)

-- What is so of a byte as it was.
abbrev pub as_before : ℕ → Bool → Bool
as_before k d = d

-- What is so of a byte from now on, where one that passes a test is given a value.
abbrev pub assigns : (ℕ → Bool) → Bool → ℕ → Bool → Bool
assigns test value k d = if test k then value else d

-- Whether a byte that passes a test is defined from now on.
abbrev pub defines : (ℕ → Bool) → ℕ → Bool → Bool
defines test = assigns test true

-- Whether it is so of a byte.
abbrev pub is_on : List Bool → ℕ → Bool
is_on xs k = holds (slice_get xs k) (λ d. d)

-- Whether a use by a family loses all.
abbrev pub is_lost : ResourceContents → ℕ → Bool
is_lost c family = c.is_exclusive && holds c.owner (λ o. not (o == family))

-- What a use by a family leaves defined.
abbrev pub left_of : ResourceContents → ℕ → ℕ → Bool → Bool
left_of c family k d = if is_lost c family then false else d

-- Who owns a buffer after a use by a family.
abbrev pub owner_after : ResourceContents → ℕ → Option ℕ
owner_after c family = if c.is_exclusive then Some family else c.owner

-- After a use by a family.
abbrev pub IsTaken : ResourceContents → ResourceContents → ℕ → Type 0
IsTaken old new family = IsChanged old new (owner_after old family) (left_of old family) as_before (λ k t. t)

-- After the host has read a range.
abbrev pub IsRead : ResourceContents → ResourceContents → ℕ → ℕ → Spot → Type 0
IsRead old new o n s = IsChanged old new old.owner as_before as_before (touching (within o n) touch.HostRead s)

-- After the host has written a range: its bytes are dirty where the memory is cached.
abbrev pub IsSet : ResourceContents → ResourceContents → ℕ → ℕ → Spot → Type 0
IsSet old new o n s = IsChanged old new old.owner (defines (within o n)) (assigns (within o n) old.is_cached) (touching (within o n) touch.HostWrite s)

-- After a command of a family has given the bytes values that pass a test.
abbrev pub IsWritten : ResourceContents → ResourceContents → (ℕ → Bool) → ℕ → Spot → Type 0
IsWritten old new test family s = IsChanged old new (owner_after old family) (λ k d. defines test k (left_of old family k d)) as_before (touching test touch.Write s)

-- After a command of a family has cleared levels and layers: it gives values to exactly those bytes of an image that are in one of the ranges (Vulkan, "Clearing Images Outside a Render Pass Instance").
pub record IsCleared (rs : List SubresourceRange) (family : ℕ) (s : Spot) (old new : ResourceContents) : Type 0 where
  pub hits : ℕ → Bool
  pub reached : (m : ImageInfo) → old.image ≡ Some m → (i k : ℕ) → k < byte_count m → hits k ≡ list_any (λ r. in_range i r (byte_of m i k)) rs
  pub written : IsWritten old new hits family s

-- The same after a command of a queue.
abbrev pub IsClearedBy : List SubresourceRange → ℕ → Spot → ResourceContents → ResourceContents → Type 0
IsClearedBy rs q s old new = IsCleared rs (family_of q) s old new

-- After a command has given the bytes of some levels and layers values.
pub record IsDefined (r : SubresourceRange) (s : Spot) (old new : ResourceContents) : Type 0 where
  pub hits : ℕ → Bool
  pub reached : (m : ImageInfo) → old.image ≡ Some m → (i k : ℕ) → k < byte_count m → hits k ≡ in_range i r (byte_of m i k)
  pub changed : IsChanged old new old.owner (defines hits) as_before (touching hits touch.Write s)

-- After the bytes of some levels and layers were lost.
pub record IsDiscarded (r : SubresourceRange) (old new : ResourceContents) : Type 0 where
  pub hits : ℕ → Bool
  pub reached : (m : ImageInfo) → old.image ≡ Some m → (i k : ℕ) → k < byte_count m → hits k ≡ in_range i r (byte_of m i k)
  pub changed : IsChanged old new old.owner (assigns hits false) as_before (λ k t. t)

-- Ranges begin at numbers of 64 bits.
abbrev pub AreShort : ByteRanges → Type 0
AreShort ranges = (n : ℕ) → n < ranges.count → ranges.first + n * ranges.step < 2 ^ 64

-- After the host has flushed a range: the bytes that it reaches are clean.
abbrev pub IsFlushed : ResourceContents → ResourceContents → ℕ → Length → Spot → Type 0
IsFlushed old new o n s = IsChanged old new old.owner as_before (assigns (λ k. old.is_cached && in_atoms o n k) false) (flushing (in_atoms o n) s)

-- After the host has invalidated a range: the dirty bytes that it reaches are lost, and what is kept of those reached says whether their last writes are seen.
pub record IsInvalidated (sees : ℕ → Bool → LastTouches → Type 0) (old new : ResourceContents) (o : ℕ) (n : Length) : Type 0 where
  pub changed : IsChanged old new old.owner (assigns (λ k. old.is_cached && in_atoms o n k && is_on old.dirty k) false) (assigns (λ k. old.is_cached && in_atoms o n k) false) (invalidating (in_atoms o n) (sees_at new.touches))
  pub answers : (k : ℕ) (t : LastTouches) → in_atoms o n k ≡ true → slice_get old.touches k ≡ Some t → sees k (sees_at new.touches k) t

-- The dirty bytes from one on and below another.
abbrev pub dirty_between : List Bool → ℕ → ℕ → ℕ → Bool
dirty_between dirty low high k = (nat_le low k && nat_lt k high) && is_on dirty k

-- After these were lost.
pub record AreLost (new old dirty : List Bool) (low high : ℕ) : Type 0 where
  pub size : length new ≡ length old
  pub values : (k : ℕ) → slice_get new k ≡ option_map (assigns (dirty_between dirty low high) false k) (slice_get old k)

-- ---- copies

-- Whether a stretch has byte k of the destination.
abbrev pub has_place : ℕ → Stretch → Bool
has_place k s = nat_le (s.destination + s.start) k && nat_lt k (s.destination + s.end)

-- What the first of some stretches that has byte k of the destination says of it.
abbrev pub stretch_at : List Stretch → ℕ → Option Bool
stretch_at ss k = option_map (λ s. s.is_defined) (find (has_place k) ss)

-- What the first region that writes byte k of the destination copies there.
abbrev pub copied_at : List Bool → List BufferCopy → ℕ → Option Bool
copied_at xs gs k = option_and_then (λ g. slice_get xs (g.source_offset + (k - g.destination_offset))) (find (λ g. within g.destination_offset g.size k) gs)

-- The regions of a copy read bytes of so many.
abbrev pub ReadWithin : List BufferCopy → ℕ → Type 0
ReadWithin gs size = (g : BufferCopy) → Contains gs g → g.source_offset + g.size ≤ size

-- Stretches are what the regions of a copy find in their source.
abbrev pub AreCopied : List Stretch → List Bool → List BufferCopy → Type 0
AreCopied ss xs gs = ReadWithin gs (length xs) → (k : ℕ) → stretch_at ss k ≡ copied_at xs gs k

-- The source of a copy, after a command of a queue has read it.
abbrev pub IsLent : ResourceContents → ResourceContents → List BufferCopy → ℕ → Spot → Type 0
IsLent old new gs q s = IsChanged old new (owner_after old (family_of q)) (left_of old (family_of q)) as_before (touching (reads_at gs) (touch.Read q) s)

-- The destination of a copy, after a command of a family has written stretches of its source there.
abbrev pub IsPasted : ResourceContents → ResourceContents → List BufferCopy → List Stretch → ℕ → Spot → Type 0
IsPasted old new gs ss family s = IsChanged old new (owner_after old family) (λ k d. unwrap_or (stretch_at ss k) (left_of old family k d)) as_before (touching (writes_at gs) touch.Write s)

-- ---- of a buffer that may not be there

-- What becomes of it, by what becomes of one that is there.
abbrev pub BecomesIn : (ResourceContents → ResourceContents → Type 0) → Option ResourceContents → Option ResourceContents → Type 0
BecomesIn is None new = new ≡ None
BecomesIn is (Some old) None = ⊥
BecomesIn is (Some old) (Some new) = is old new

-- After a command of a queue has given a range values, in a buffer of its size.
abbrev pub IsWrittenBy : ℕ → Length → ℕ → Spot → ResourceContents → ResourceContents → Type 0
IsWrittenBy o n q s old new = IsWritten old new (within o (fill_size (length old.defined) o n)) (family_of q) s

-- After a source was read, with what was found there.
abbrev pub IsLentWith : List BufferCopy → List Stretch → ℕ → Spot → ResourceContents → ResourceContents → Type 0
IsLentWith gs ss q s old new = IsLent old new gs q s × AreCopied ss new.defined gs

-- ---- of all resources

-- After a command of a queue has copied numbers from one resource to another, or within one: its source is read, and what was found there is written.
pub record AreCopiedNumbers (old new : Contents) (s d : ℕ) (gs : List BufferCopy) (q : ℕ) (t : Spot) : Type 0 where
  pub lent : Contents
  pub stretches : List Stretch
  pub source : BecomesIn (IsLentWith gs stretches q t) (value_of old.resources s) (value_of lent.resources s)
  pub source_alone : (other : ℕ) → other ≢ s → value_of lent.resources other ≡ value_of old.resources other
  pub destination : BecomesIn (λ u v. IsPasted u v gs stretches (family_of q) t) (value_of lent.resources d) (value_of new.resources d)
  pub destination_alone : (other : ℕ) → other ≢ d → value_of new.resources other ≡ value_of lent.resources other

-- The image that some contents are of, by which its bytes are numbered.
abbrev pub image_kept : Contents → ℕ → Option ImageInfo
image_kept contents i = option_and_then (λ c. c.image) (value_of contents.resources i)

-- ---- what it says of a past

-- The family that owns a resource, or has released it: that another family loses the contents is the same of both (Vulkan, "Queue Family Ownership Transfer").
abbrev pub holder_of : Owner → Option ℕ
holder_of Nobody = None
holder_of (Family f) = Some f
holder_of (Released f e) = Some f

-- Whether a byte is defined in a world.
abbrev pub has_value : World → Byte → Bool
has_value w b = not (is_none (w.value b))

-- Whether byte k of a buffer is defined.
abbrev pub is_defined_in : World → ℕ → ℕ → Bool
is_defined_in w b k = has_value w (in_buffer b k)

-- The same after what has happened.
abbrev pub is_defined : Past → ℕ → ℕ → Bool
is_defined past b k = is_defined_in (world past) b k

-- The byte of a number: byte k of a buffer, or of an image (profile).
unfoldable pub byte_at : Past → ℕ → ℕ → Byte
byte_at past r k = elim (image past r) [ None ↦ in_buffer r k | Some m ↦ byte_of m r k ]

-- How many bytes a resource has that are numbered (profile).
unfoldable pub size_at : Past → ℕ → ℕ
size_at past r = elim (image past r) [ None ↦ buffer_size past r | Some m ↦ byte_count m ]

-- These are the bytes of resource r, and all of its numbers are theirs.
pub record AreBytesOf (past : Past) (r : ℕ) (b : Bytes) : Type 0 where
  pub byte : (k : ℕ) → numbered_byte b k ≡ byte_at past r k
  pub numbers : HaveNumbers b (size_at past r)
  pub of_buffer : image past r ≡ None → b ≡ bytes.Buffer r

-- The contents of resource r, where a world has its bytes and its owner, and each byte remembers this.
pub record AreContentsAt (c : ResourceContents) (past : Past) (w : World) (t : Byte → LastTouches) (r : ℕ) : Type 0 where
  pub made : is_some (resource past r) ≡ true
  pub defined_size : length c.defined ≡ size_at past r
  pub dirty_size : length c.dirty ≡ size_at past r
  pub touches_size : length c.touches ≡ size_at past r
  pub image : c.image ≡ image past r
  pub mode : c.is_exclusive ≡ is_exclusive past r
  pub cache : c.is_cached ≡ is_cached past r
  pub owner : c.owner ≡ holder_of (w.owner r)
  pub defined : (k : ℕ) → k < size_at past r → slice_get c.defined k ≡ Some (has_value w (byte_at past r k))
  pub dirty : (k : ℕ) → k < size_at past r → slice_get c.dirty k ≡ Some (w.dirty (byte_at past r k))
  pub touches : (k : ℕ) → k < size_at past r → slice_get c.touches k ≡ Some (t (byte_at past r k))

-- The contents of resource r.
abbrev pub AreContentsOf : ResourceContents → Past → ℕ → Type 0
AreContentsOf c past r = AreContentsAt c past (world past) (touched past) r

-- The contents of buffer b.
pub record AreBufferContents (c : ResourceContents) (past : Past) (b : ℕ) : Type 0 where
  pub defined_size : length c.defined ≡ buffer_size past b
  pub touches_size : length c.touches ≡ buffer_size past b
  pub cache : c.is_cached ≡ is_cached past b
  pub defined : (k : ℕ) → k < buffer_size past b → slice_get c.defined k ≡ Some (is_defined past b k)
  pub touches : (k : ℕ) → k < buffer_size past b → slice_get c.touches k ≡ Some (touched past (in_buffer b k))

-- What is no resource has no owner and no defined or dirty byte in a world, and nobody touched it, as its bytes remember.
pub record IsFreshAt (past : Past) (w : World) (t : Byte → LastTouches) (r : ℕ) : Type 0 where
  pub unmade : is_some (resource past r) ≡ false
  pub owner : w.owner r ≡ Nobody
  pub undefined : (b : Byte) → resource_at b ≡ r → has_value w b ≡ false
  pub clean : (b : Byte) → resource_at b ≡ r → w.dirty b ≡ false
  pub unused : (b : Byte) → resource_at b ≡ r → t b ≡ untouched

-- The same after what has happened.
abbrev pub IsFresh : Past → ℕ → Type 0
IsFresh past r = IsFreshAt past (world past) (touched past) r

-- The contents of what may be a resource, in a world.
abbrev pub AreContentsInAt : Option ResourceContents → Past → World → (Byte → LastTouches) → ℕ → Type 0
AreContentsInAt None past w t r = IsFreshAt past w t r
AreContentsInAt (Some c) past w t r = AreContentsAt c past w t r

-- The contents of what may be a resource.
abbrev pub AreContentsIn : Option ResourceContents → Past → ℕ → Type 0
AreContentsIn o past r = AreContentsInAt o past (world past) (touched past) r

-- The contents of all resources, in a world.
abbrev pub AreAllAt : Contents → Past → World → (Byte → LastTouches) → Type 0
AreAllAt contents past w t = (r : ℕ) → AreContentsInAt (value_of contents.resources r) past w t r

-- The contents of all resources.
abbrev pub AreContents : Contents → Past → Type 0
AreContents contents past = AreAllAt contents past (world past) (touched past)
