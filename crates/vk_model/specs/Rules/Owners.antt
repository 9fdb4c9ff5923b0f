-- The rules on ownership transfers: OWNER_WHOLE, OWNER_PAIR.
use Rattle.std.specs.Prelude.{ℕ, List, [], ◌∷◌, Bool, true, false, not, ◌&&◌, ◌||◌, ◌==◌, nat_lt, Option, Some, None}
use Rattle.std.specs.List.{list_any, find}
use Rattle.vk_model.specs.declared.command.Element.{Element}
use Rattle.vk_model.specs.declared.command.Element.TheVariants as element
use Rattle.vk_model.specs.declared.command.Families.{Families}
use Rattle.vk_model.specs.declared.command.Length.{Length}
use Rattle.vk_model.specs.declared.command.Length.TheVariants as length_of
use Rattle.vk_model.specs.declared.command.SubresourceRange.{SubresourceRange}
use Rattle.vk_model.specs.declared.resource.ImageInfo.{ImageInfo}
use Rattle.vk_model.specs.Basics.{holds}
use Rattle.vk_model.specs.Trace.Point.{Past, Point, on_command}
use Rattle.vk_model.specs.Trace.Objects.{image, is_exclusive}
use Rattle.vk_model.specs.World.Bytes.{World, Owner, Released}
use Rattle.vk_model.specs.World.ByteWrites.{buffer_size}
use Rattle.vk_model.specs.World.Ownership.{elements_of, named_by, families_of, family_of, Transfer, Stays, Release, Acquire, Neither, transfer_on, is_release}
use Rattle.vk_model.specs.World.Effect.{world, after_element}
use Rattle.vk_model.specs.Sync.Node.{Node, Act, Depends, nodes, next_nodes}
use Rattle.vk_model.specs.Sync.Edge.{earlier}
use Rattle.vk_model.specs.Sync.Before.{before}

-- ---- OWNER_WHOLE

-- Whether two queue families differ: then it's an ownership transfer (Vulkan, "Queue Family Ownership Transfer").
abbrev pub families_differ : Families → Bool
families_differ t = not (t.source == t.destination)

-- Whether a length from offset 0 is the whole of a buffer.
abbrev pub is_all : ℕ → Length → Bool
is_all size (length_of.Bytes n) = n == size
is_all size length_of.Whole = true

-- Whether a range is the whole of an image.
abbrev pub is_all_of : ImageInfo → SubresourceRange → Bool
is_all_of m r = r.first_level == 0 && r.first_layer == 0 && r.levels == m.levels && r.layers == m.layers

-- Whether an element transfers less than its whole resource.
abbrev pub is_partial_transfer : Past → Element → Bool
is_partial_transfer past (element.Memory d) = false
is_partial_transfer past (element.Buffer e) = families_differ e.families && not (e.offset == 0 && is_all (buffer_size past e.buffer) e.size)
is_partial_transfer past (element.Image e) = families_differ e.families && holds (image past e.image) (λ m. not (is_all_of m e.range))

-- OWNER_WHOLE: an ownership transfer of less than a whole resource (profile; Vulkan allows it, "Queue Family Ownership Transfer").
abbrev pub breaks_owner_whole : Past → Point → Bool
breaks_owner_whole past p = on_command (λ c. list_any (is_partial_transfer past) (elements_of c)) p

-- ---- OWNER_PAIR

-- Whether two pairs of families are equal.
abbrev pub same_families : Families → Families → Bool
same_families t u = t.source == u.source && t.destination == u.destination

-- Whether two elements are two halves of one transfer: the same families, the same resource and, as written, the same layouts; the ranges are the whole (Vulkan, "Queue Family Ownership Transfer").
abbrev pub is_pair : Element → Element → Bool
is_pair (element.Buffer e) (element.Buffer f) = same_families e.families f.families && e.buffer == f.buffer
is_pair (element.Image e) (element.Image f) = same_families e.families f.families && e.image == f.image && e.old_layout == f.old_layout && e.new_layout == f.new_layout
is_pair _ _ = false

-- Whether a resource is released and not acquired or used since.
abbrev pub is_released : Owner → Bool
is_released (Released f e) = true
is_released _ = false

-- Whether it is, by an element that the given one is the other half of.
abbrev pub is_released_for : Element → Owner → Bool
is_released_for g (Released f e) = is_pair e g
is_released_for g _ = false

-- The element that an act is.
abbrev pub element_in : Act → Option Element
element_in (Depends role e) = Some e
element_in _ = None

-- Whether an element on a queue releases resource r.
abbrev pub releases_resource : ℕ → ℕ → Element → Bool
releases_resource r q e = is_release q e && holds (named_by e) (λ i. i == r)

-- Whether node m is a release of resource r.
abbrev pub is_release_of : ℕ → Node → Bool
is_release_of r m = holds (element_in m.act) (releases_resource r m.point.queue)

-- Whether the last release of resource r among the nodes earlier than n comes before n (Vulkan, "Queue Family Ownership Transfer").
abbrev pub release_before : List Node → ℕ → Node → Bool
release_before ns r n = holds (find (is_release_of r) (earlier n ns)) (λ m. before ns m n)

-- Whether families differ and one isn't 0 or 1, or the resource is concurrent (Vulkan, "Queue Family Ownership Transfer").
abbrev pub bad_families : Past → Element → ℕ → Bool
bad_families past e r = holds (families_of e) (λ t. families_differ t && (nat_lt 1 t.source || nat_lt 1 t.destination || not (is_exclusive past r)))

-- Whether an element of node n, on the families that it names for resource r, doesn't fit the owner: it is neither half; it releases what is released; or it acquires without an equal release before it, that nothing has followed (Vulkan, "Queue Family Ownership Transfer").
abbrev pub bad_owner : List Node → World → Node → ℕ → Element → Transfer → Bool
bad_owner ns w n r e Stays = false
bad_owner ns w n r e Neither = true
bad_owner ns w n r e Release = is_released (w.owner r)
bad_owner ns w n r e Acquire = not (is_released_for e (w.owner r) && release_before ns r n)

-- Whether an element of node n breaks the pairing of releases and acquires.
abbrev pub bad_pair : Past → List Node → World → Node → Element → Bool
bad_pair past ns w n e = holds (named_by e) (λ r. bad_families past e r || bad_owner ns w n r e (transfer_on n.point.queue e))

-- The world after an element, if there is one, on a queue.
abbrev pub after_some : Past → ℕ → Option Element → World → World
after_some past q None w = w
after_some past q (Some e) w = after_element past (family_of q) w e

-- Whether one of a command's nodes breaks it; each is judged by the owners that the elements before it leave (profile).
abbrev pub some_bad_pair : Past → List Node → World → List Node → Bool
some_bad_pair past ns w [] = false
some_bad_pair past ns w (n ∷ rest) =
    holds (element_in n.act) (bad_pair past ns w n)
    || some_bad_pair past ns (after_some past n.point.queue (element_in n.act) w) rest

-- OWNER_PAIR: a release or acquire that doesn't fit its other half, its queue or its resource (Vulkan, "Queue Family Ownership Transfer").
abbrev pub breaks_owner_pair : Past → Point → Bool
breaks_owner_pair past p = some_bad_pair past (nodes (p ∷ past)) (world past) (next_nodes past p)
