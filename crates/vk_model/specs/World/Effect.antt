-- What host entries and commands do to the world.
use Rattle.std.specs.Prelude.{ℕ, ◌+◌, ◌-◌, ◌/◌, List, [], ◌∷◌, Bool, false, not, ◌&&◌, ◌==◌, nat_lt, nat_le, if◌then◌else◌, Option, Some, None, slice_get}
use Rattle.std.specs.List.{find, fold}
use Rattle.std.specs.Option.{option_or}
use Rattle.vk_model.specs.declared.command.Cmd.{Cmd}
use Rattle.vk_model.specs.declared.command.Length.{Length}
use Rattle.vk_model.specs.declared.command.Length.TheVariants as length_of
use Rattle.vk_model.specs.declared.command.Element.{Element}
use Rattle.vk_model.specs.declared.command.Element.TheVariants as element
use Rattle.vk_model.specs.declared.command.ImageElement.{ImageElement}
use Rattle.vk_model.specs.declared.command.BufferElement.{BufferElement}
use Rattle.vk_model.specs.declared.command.SubresourceRange.{SubresourceRange}
use Rattle.vk_model.specs.declared.entry.Entry.{Entry}
use Rattle.vk_model.specs.declared.entry.Entry.TheVariants as entry
use Rattle.vk_model.specs.Basics.{within}
use Rattle.vk_model.specs.Trace.Point.{Past, Action, Host, Run}
use Rattle.vk_model.specs.Trace.Objects.{is_exclusive, is_cached}
use Rattle.vk_model.specs.World.Bytes.{Byte, in_buffer, in_image, same_byte, resource_at, Owner, Nobody, Family, Released, World, new_world}
use Rattle.vk_model.specs.World.ByteWrites.{Source, Value, From, ByteWrite, byte_writes}
use Rattle.vk_model.specs.World.Ownership.{family_of, uses, elements_of, Transfer, Stays, Release, Acquire, Neither, transfer, is_transition}

-- ---- bytes

-- The value that a source gives.
abbrev pub source_value : (Byte → Option ℕ) → Source → Option ℕ
source_value value (Value n) = Some n
source_value value (From b) = value b

-- The value of byte b after the write to it, if there is one.
abbrev pub value_after : (Byte → Option ℕ) → Option ByteWrite → Byte → Option ℕ
value_after value None b = value b
value_after value (Some m) b = source_value value m.source

-- The bytes after the writes of a command, which are made at once, from the bytes before it. Undefined is copied as undefined (profile).
abbrev pub after_writes : List ByteWrite → (Byte → Option ℕ) → Byte → Option ℕ
after_writes ms value b = value_after value (find (λ m. same_byte m.to b) ms) b

-- The bytes when some are lost.
abbrev pub without : (Byte → Bool) → (Byte → Option ℕ) → Byte → Option ℕ
without lost value b = if lost b then None else value b

-- ---- owners

-- Whether the owner is another family than f, or another released the resource.
abbrev pub is_other : ℕ → Owner → Bool
is_other f Nobody = false
is_other f (Family g) = not (f == g)
is_other f (Released g e) = not (f == g)

-- The world when a resource has this owner.
abbrev pub set_owner : ℕ → Owner → World → World
set_owner r o w = record w { owner = λ s. if s == r then o else w.owner s }

-- A use of an exclusive resource by a family: what another family owns or has released is lost, and the family owns it from then on (Vulkan, "Resource Sharing Mode"; that all bytes are lost: profile).
abbrev pub used : Past → ℕ → ℕ → World → World
used past f r w =
    if is_exclusive past r
    then set_owner r (Family f) (record w { value = if is_other f (w.owner r) then without (λ b. resource_at b == r) w.value else w.value })
    else w

-- ---- elements of barriers

-- Whether a byte is in a range of levels and layers of an image (Vulkan, "Images", on `VkImageSubresourceRange`).
abbrev pub in_range : ℕ → SubresourceRange → Byte → Bool
in_range i r (in_buffer b k) = false
in_range i r (in_image j k l x y p) = i == j && within r.first_level r.levels k && within r.first_layer r.layers l

-- The layout of a subresource after a transition.
abbrev pub layout_after : ImageElement → World → ℕ → ℕ → ℕ → ℕ
layout_after e w i k l =
    if i == e.image && within e.range.first_level e.range.levels k && within e.range.first_layer e.range.layers l then e.new_layout else w.layout i k l

-- A transition sets the layouts; from UNDEFINED the contents are lost. Equal layouts do nothing (Vulkan, "Image Layout Transitions").
abbrev pub transitioned : ImageElement → World → World
transitioned e w =
    if is_transition e
    then record w { layout = layout_after e w; value = if e.old_layout == 0 then without (in_range e.image e.range) w.value else w.value }
    else w

-- What a buffer element does: a release is a use and leaves the buffer released; an acquire makes its family the owner, and nothing is lost (Vulkan, "Queue Family Ownership Transfer").
abbrev pub after_buffer_element : Past → ℕ → BufferElement → Transfer → World → World
after_buffer_element past f e Release w = set_owner e.buffer (Released f (element.Buffer e)) (used past f e.buffer w)
after_buffer_element past f e Acquire w = set_owner e.buffer (Family f) w
after_buffer_element past f e _ w = w

-- What an image element does: the same, and a transition within one family is a use; that of a transfer takes place at the acquire alone (Vulkan, "Queue Family Ownership Transfer"; at the acquire: profile).
abbrev pub after_image_element : Past → ℕ → ImageElement → Transfer → World → World
after_image_element past f e Stays w = if is_transition e then transitioned e (used past f e.image w) else w
after_image_element past f e Release w = set_owner e.image (Released f (element.Image e)) (used past f e.image w)
after_image_element past f e Acquire w = set_owner e.image (Family f) (transitioned e w)
after_image_element past f e Neither w = w

-- What an element of a barrier does, on a queue of family f (Vulkan, "Memory Barriers").
abbrev pub after_element : Past → ℕ → World → Element → World
after_element past f w (element.Memory d) = w
after_element past f w (element.Buffer e) = after_buffer_element past f e (transfer f e.families) w
after_element past f w (element.Image e) = after_image_element past f e (transfer f e.families) w

-- ---- commands

-- A command uses its resources, makes its byte writes, and its elements take effect in order (Vulkan, "Clear Commands", "Copy Commands" and "Pipeline Barriers"; the order: profile).
abbrev pub after_command : Past → ℕ → Cmd → World → World
after_command past f c w =
    let ready = fold (λ v r. used past f r v) w (uses c) in
    fold (after_element past f) (record ready { value = after_writes (byte_writes past c) ready.value }) (elements_of c)

-- ---- host entries

-- The byte of a buffer that a host write at an offset gives (Vulkan, "Host Access to Device Memory Objects").
abbrev pub written : ℕ → ℕ → List ℕ → Byte → Option ℕ
written b o bytes (in_buffer c k) = if b == c && nat_le o k then slice_get bytes (k - o) else None
written b o bytes (in_image i l m x y p) = None

-- Whether byte k lies in an atom of 64 bytes that a range reaches; a length to the end reaches all from there (Vulkan, "Host Access to Device Memory Objects", on `nonCoherentAtomSize`; 64: profile).
abbrev pub in_atoms : ℕ → Length → ℕ → Bool
in_atoms o (length_of.Bytes n) k = nat_lt 0 n && nat_le (o / 64) (k / 64) && nat_le (k / 64) ((o + n - 1) / 64)
in_atoms o length_of.Whole k = nat_le (o / 64) (k / 64)

-- Whether a flush or invalidation of a range of a buffer reaches a byte.
abbrev pub reaches : ℕ → ℕ → Length → Byte → Bool
reaches b o n (in_buffer c k) = b == c && in_atoms o n k
reaches b o n (in_image i l m x y p) = false

-- A host write sets its bytes, and makes them dirty where the memory is cached (Vulkan, "Host Access to Device Memory Objects").
abbrev pub after_write : Bool → ℕ → ℕ → List ℕ → World → World
after_write cached b o bytes w = record w {
  value = λ k. option_or (written b o bytes k) (w.value k);
  dirty = λ k. elim (written b o bytes k) [ None ↦ w.dirty k | Some n ↦ cached ];
}

-- A flush makes the bytes clean that it reaches (Vulkan, "Host Access to Device Memory Objects", on `vkFlushMappedMemoryRanges`).
abbrev pub flushed : (Byte → Bool) → World → World
flushed reached w = record w { dirty = λ k. if reached k then false else w.dirty k }

-- Dirty bytes that an invalidation reaches become undefined, and no byte that it reaches stays dirty (Vulkan, "Host Access to Device Memory Objects", on `vkInvalidateMappedMemoryRanges`).
abbrev pub invalidated : (Byte → Bool) → World → World
invalidated reached w = flushed reached (record w { value = without (λ k. reached k && w.dirty k) w.value })

-- What a host entry does to the world; on memory that isn't cached, flush and invalidation do nothing, and no other entry changes a byte (Vulkan, "Host Access to Device Memory Objects").
abbrev pub after_host : Past → Entry → World → World
after_host past (entry.Write b o bytes) w = after_write (is_cached past b) b o bytes w
after_host past (entry.Flush b o n) w = if is_cached past b then flushed (reaches b o n) w else w
after_host past (entry.Invalidate b o n) w = if is_cached past b then invalidated (reaches b o n) w else w
after_host past _ w = w

-- What an action on a queue does to the world: waits and signals order, and change nothing.
abbrev pub after_action : Past → ℕ → Action → World → World
after_action past q (Host x) w = after_host past x w
after_action past q (Run c) w = after_command past (family_of q) c w
after_action past q _ w = w

-- The world after what has happened, one point at a time (profile).
abbrev pub world : Past → World
world [] = new_world
world (p ∷ past) = after_action past p.queue p.action (world past)
