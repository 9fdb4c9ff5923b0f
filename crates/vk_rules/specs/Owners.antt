-- OWNER_WHOLE: which numbers are compared. OWNER_PAIR: which element doesn't fit the owner of its resource, and why.
use Rattle.std.specs.Prelude.{◌≡◌, ℕ, ◌==◌, ◌&&◌, ◌||◌, List, Bool, true, false, nat_lt, Option, Some, None, option_map, option_and_then, slice_get, take, if◌then◌else◌}
use Rattle.std.specs.List.{fold}
use Rattle.vk_model.specs.declared.command.Cmd.TheVariants as cmd
use Rattle.vk_model.specs.declared.command.Element.{Element}
use Rattle.vk_model.specs.declared.command.Element.TheVariants as element
use Rattle.vk_model.specs.declared.command.Families.{Families}
use Rattle.vk_model.specs.declared.command.SubresourceRange.{SubresourceRange}
use Rattle.vk_model.specs.Trace.Point.{Past, Action, Run}
use Rattle.vk_model.specs.Trace.Objects.{image, is_exclusive}
use Rattle.vk_model.specs.World.Bytes.{Owner}
use Rattle.vk_model.specs.World.ByteWrites.{buffer_size}
use Rattle.vk_model.specs.World.Effect.{world, after_element}
use Rattle.vk_model.specs.World.Ownership.{Release, Acquire, Neither, family_of, transfer_on, named_by, families_of}
use Rattle.vk_model.specs.Rules.Owners.{families_differ, is_all, is_released, is_released_for}
use Rattle.vk_rules.specs.declared.owners.OwnerFault.{OwnerFault}
use Rattle.vk_rules.specs.declared.owners.OwnerFault.TheVariants as fault
use Rattle.vk_rules.specs.declared.owners.Unpaired.{Unpaired}
use Rattle.vk_rules.specs.declared.transfers.PartTransfer.{PartTransfer}
use Rattle.vk_rules.specs.declared.transfers.PartTransfer.TheVariants as transfer
use Rattle.vk_rules.specs.Ranges.{Named, named}

-- ---- OWNER_WHOLE

-- The bytes whose ownership an element transfers (Vulkan, "Queue Family Ownership Transfer").
abbrev pub transferred_bytes : Element → Option Named
transferred_bytes (element.Buffer e) = if families_differ e.families then Some (named e.buffer e.offset e.size) else None
transferred_bytes _ = None

-- The image and the subresources whose ownership an element transfers (Vulkan, "Queue Family Ownership Transfer").
abbrev pub transferred_range : Element → Option (ℕ × SubresourceRange)
transferred_range (element.Image e) = if families_differ e.families then Some (e.image, e.range) else None
transferred_range _ = None

-- Whether a range is all of an image with so many levels and layers.
abbrev pub is_whole : ℕ → ℕ → SubresourceRange → Bool
is_whole levels layers r = r.first_level == 0 && r.first_layer == 0 && r.levels == levels && r.layers == layers

-- One of some elements transfers this, with the size of the buffer or the levels and layers of the image, and it isn't all.
abbrev pub IsPartOf : Past → List Element → PartTransfer → Type 0
IsPartOf past es (transfer.Bytes m) =
    (option_and_then transferred_bytes (slice_get es m.element) ≡ Some (named m.buffer m.offset m.bytes))
    × (m.size ≡ buffer_size past m.buffer) × ((m.offset == 0 && is_all m.size m.bytes) ≡ false)
IsPartOf past es (transfer.Subresources m) =
    (option_and_then transferred_range (slice_get es m.element) ≡ Some (m.image, m.range))
    × (option_map (λ i. i.levels) (image past m.image) ≡ Some m.levels) × (option_map (λ i. i.layers) (image past m.image) ≡ Some m.layers) × (is_whole m.levels m.layers m.range ≡ false)

-- What is reported of an action that breaks OWNER_WHOLE.
abbrev pub IsOwnerWhole : Past → Action → PartTransfer → Type 0
IsOwnerWhole past (Run (cmd.Barrier es)) m = IsPartOf past es m
IsOwnerWhole past _ m = ⊥

-- ---- OWNER_PAIR

-- What doesn't fit of an element on a queue, by its families, whether its resource is exclusive, and the owner (Vulkan, "Queue Family Ownership Transfer").
abbrev pub IsFault : ℕ → Element → Families → Bool → Owner → OwnerFault → Type 0
IsFault q e t exclusive o fault.UnknownFamily = (nat_lt 1 t.source || nat_lt 1 t.destination) ≡ true
IsFault q e t exclusive o fault.Concurrent = exclusive ≡ false
IsFault q e t exclusive o fault.OtherQueue = transfer_on q e ≡ Neither
IsFault q e t exclusive o fault.ReleasedTwice = (transfer_on q e ≡ Release) × (is_released o ≡ true)
IsFault q e t exclusive o fault.Unreleased = (transfer_on q e ≡ Acquire) × (is_released o ≡ false)
IsFault q e t exclusive o fault.OtherHalf = (transfer_on q e ≡ Acquire) × (is_released o ≡ true) × (is_released_for e o ≡ false)
IsFault q e t exclusive o fault.Unordered = (transfer_on q e ≡ Acquire) × (is_released_for e o ≡ true)

-- The owner of resource r that element k of a barrier on a queue finds, after the elements before it (profile).
abbrev pub owner_at : Past → ℕ → List Element → ℕ → ℕ → Owner
owner_at past q es k r = (fold (after_element past (family_of q)) (world past) (take k es)).owner r

-- One of some elements on a queue names a resource, its families differ, and something doesn't fit.
pub record AreUnpaired (past : Past) (q : ℕ) (es : List Element) (m : Unpaired) : Type 0 where
  pub element : Element
  pub is : slice_get es m.element ≡ Some element
  pub resource : named_by element ≡ Some m.resource
  pub families : families_of element ≡ Some m.families
  pub differ : families_differ m.families ≡ true
  pub misfit : IsFault q element m.families (is_exclusive past m.resource) (owner_at past q es m.element m.resource) m.fault

-- What is reported of an action on a queue that breaks OWNER_PAIR.
abbrev pub IsUnpaired : Past → ℕ → Action → Unpaired → Type 0
IsUnpaired past q (Run (cmd.Barrier es)) m = AreUnpaired past q es m
IsUnpaired past q _ m = ⊥
