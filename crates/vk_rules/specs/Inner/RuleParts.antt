-- Parts of rules, as single functions answer them.
use Rattle.std.specs.Prelude.{ℕ, ◌+◌, ◌*◌, ◌%◌, ◌==◌, ◌&&◌, ◌||◌, ◌∷◌, List, Bool, not, nat_lt, option_and_then}
use Rattle.std.specs.List.{list_any}
use Rattle.vk_model.specs.declared.entry.Entry.{Entry}
use Rattle.vk_model.specs.declared.resource.Place.{Place}
use Rattle.vk_model.specs.Basics.{holds}
use Rattle.vk_model.specs.Trace.Objects.{Resource, pool, memory, pool_at, pool_of, live, bound_at, type_at}
use Rattle.vk_model.specs.Trace.Point.{Past, Point}
use Rattle.vk_model.specs.Rules.Binding.{is_aliased}
use Rattle.vk_model.specs.Sync.Node.{Hosts, nodes}
use Rattle.vk_model.specs.Sync.Complete.{is_busy}
use Rattle.vk_model.specs.Rules.Ids.{Asked, is_dead, is_resource, judged_in}
use Rattle.vk_touches.specs.Touched.{next_node}

-- Whether an id isn't a live object of the kind asked, as the ids of a point are judged.
abbrev pub is_dead_for : Past → Point → ℕ → (Entry → Bool) → Bool
is_dead_for past p i kind = is_dead (judged_in past p) (i, kind)

-- Whether some id isn't.
abbrev pub some_dead : Past → Point → Asked → Bool
some_dead past p asked = list_any (is_dead (judged_in past p)) asked

-- Whether more than half a block of the pool of a place is asked for.
abbrev pub is_over_half : Past → Place → ℕ → Bool
is_over_half past q n = holds (option_and_then (pool past) (pool_at q)) (λ p. nat_lt p.block_size (2 * n))

-- Whether so many bytes end past the memory object of a place.
abbrev pub ends_past_object : Past → Place → ℕ → Bool
ends_past_object past q n = holds (bound_at q) (λ s. holds (memory past s.0) (λ x. nat_lt x.size (s.1 + n)))

-- Whether the offset of a place in a memory object isn't a multiple of an alignment, and on memory of type 2 of 64.
abbrev pub is_misplaced_at : Past → Place → ℕ → Bool
is_misplaced_at past q align = holds (bound_at q) (λ s. not (s.1 % align == 0) || holds (type_at past q) (λ t. t == 2) && not (s.1 % 64 == 0))

-- Whether a resource conflicts with a live one in the memory object that it's bound to.
abbrev pub is_aliased_at : Past → Resource → Bool
is_aliased_at past r = holds (bound_at r.place) (λ s. is_aliased past r s.0 s.1)

-- Whether a resource is live, in a pool, and busy at a host entry at a point that comes next.
abbrev pub is_resident_busy : Past → Point → Entry → ℕ → ℕ → Bool
is_resident_busy past p x q r = holds (live past r) is_resource && holds (pool_of past r) (λ s. q == s) && is_busy past (nodes (p ∷ past)) (next_node past p (Hosts x)) r
