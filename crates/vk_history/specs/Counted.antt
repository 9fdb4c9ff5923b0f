-- What is counted by ids: mappings, the live resources of memory objects and pools, and defragmentations.
use Rattle.std.specs.Prelude.{◌≡◌, ℕ, ◌+◌, ◌-◌, List, [], ◌∷◌, Bool, ◌==◌, if◌then◌else◌, Option, Some, None, option_map, option_and_then, unwrap_or, count_by}
use Rattle.vk_ids.specs.Ids.{value_of}
use Rattle.vk_model.specs.declared.entry.Entry.{Entry}
use Rattle.vk_model.specs.declared.entry.Entry.TheVariants as entry
use Rattle.vk_model.specs.declared.resource.Place.{Place}
use Rattle.vk_model.specs.Basics.{holds}
use Rattle.vk_model.specs.Trace.Point.{Past, entries}
use Rattle.vk_model.specs.Trace.Objects.{made, memory_of, pool_of, bound_at, resource_in, defrag_in, live_resources}
use Rattle.vk_model.specs.Rules.Mapping.{mapping, maps, unmaps}
use Rattle.vk_model.specs.Rules.Passes as passes
use Rattle.vk_model.specs.Rules.Passes.{is_of_pool, count_of, begins, finishes, pool_of_defrag}
use Rattle.vk_history.specs.declared.counts.Counts.{Counts}
use Rattle.vk_history.specs.declared.defrags.Defrags.{Defrags}
use Rattle.vk_history.specs.declared.defrags.OpenPass.{OpenPass}
use Rattle.vk_history.specs.declared.mappings.Mappings.{Mappings}
use Rattle.vk_history.specs.declared.occupants.Occupants.{Occupants}

-- How many a table has for an id.
abbrev pub count_at : Counts → ℕ → ℕ
count_at counts i = unwrap_or (value_of counts.counts i) 0

-- ---- mappings

-- How many entries are of this form with a buffer that has this mapping.
abbrev pub count_mapping : Past → (Entry → Option ℕ) → ℕ → ℕ
count_mapping past form k = count_by (λ x. holds (form x) (λ b. mapping past b == k)) (entries past)

-- How much more often each mapping was mapped than unmapped.
abbrev pub AreMappings : Mappings → Past → Type 0
AreMappings mappings past = (k : ℕ) → count_mapping past maps k ≡ count_mapping past unmaps k + count_at mappings.mapped k

-- Whether an entry is of this form with a buffer that has a mapping.
abbrev pub is_mapping : Past → Option ℕ → ℕ → Bool
is_mapping past b k = holds b (λ c. mapping past c == k)

-- What an entry changes of them.
abbrev pub MapsBy : Past → Entry → Mappings → Mappings → Type 0
MapsBy past x old new = (k : ℕ) → count_at new.mapped k ≡ count_at old.mapped k + (if is_mapping past (maps x) k then 1 else 0) - (if is_mapping past (unmaps x) k then 1 else 0)

-- ---- live resources by where they are

-- Whether there is an id, and it is this one.
abbrev pub is_id : ℕ → Option ℕ → Bool
is_id k o = holds o (λ i. k == i)

-- How many live resources are at an id, by what says where a resource is.
abbrev pub count_live : (Past → ℕ → Option ℕ) → Past → ℕ → ℕ
count_live of past k = count_by (λ r. is_id k (of past r)) (live_resources past)

-- How many live resources are bound to each memory object, and how many each pool has.
pub record AreOccupants (occupants : Occupants) (past : Past) : Type 0 where
  pub memories : (m : ℕ) → count_at occupants.memories m ≡ count_live memory_of past m
  pub pools : (q : ℕ) → count_at occupants.pools q ≡ count_live pool_of past q

-- The memory object of a place that the trace binds itself.
abbrev pub memory_at : Place → Option ℕ
memory_at q = option_map (λ s. s.0) (bound_at q)

-- The resources that an entry destroys.
abbrev pub destroyed_by : Entry → List ℕ
destroyed_by (entry.Destroy r) = r ∷ []
destroyed_by (entry.EndPass d kept lost) = lost
destroyed_by _ = []

-- What an entry changes of a count.
abbrev pub OccupiesBy : (Past → ℕ → Option ℕ) → (Place → Option ℕ) → Past → Entry → Counts → Counts → Type 0
OccupiesBy of at past x old new = (k : ℕ) → count_at new k
    ≡ count_at old k + (if is_id k (option_and_then (λ r. at r.place) (resource_in x)) then 1 else 0) - count_by (λ r. is_id k (of past r)) (destroyed_by x)

-- What one resource, or several, change of it when they leave.
abbrev pub LeavesBy : (Past → ℕ → Option ℕ) → Past → List ℕ → Counts → Counts → Type 0
LeavesBy of past rs old new = (k : ℕ) → count_at new k ≡ count_at old k - count_by (λ r. is_id k (of past r)) rs

-- ---- defragmentations

-- Whether a pass is of a defragmentation.
abbrev pub is_pass : Option OpenPass → ℕ → Bool
is_pass pass d = holds pass (λ o. o.defrag == d)

-- How many defragmentations each pool has that haven't ended, and the pass that is open.
pub record AreDefrags (defrags : Defrags) (past : Past) : Type 0 where
  pub pools : (q : ℕ) → count_at defrags.pools q ≡ count_by (is_of_pool past q) (passes.defrags past)
  pub begun : (d : ℕ) → count_of past d begins ≡ count_of past d finishes + (if is_pass defrags.pass d then 1 else 0)
  pub going : (o : OpenPass) → defrags.pass ≡ Some o → pool_of_defrag past o.defrag ≡ Some o.pool

-- The pass that a defragmentation begins.
abbrev pub pass_begun : Past → ℕ → Option OpenPass
pass_begun past d = option_map (λ q. record { defrag = d; pool = q }) (option_and_then defrag_in (made past d))

-- The pass that is open after an entry.
abbrev pub pass_after : Past → Entry → Option OpenPass → Option OpenPass
pass_after past (entry.Pass d) pass = pass_begun past d
pass_after past (entry.EndPass d kept lost) pass = None
pass_after past _ pass = pass

-- The defragmentation that an entry ends.
abbrev pub defrag_ended : Entry → Option ℕ
defrag_ended (entry.EndDefrag d) = Some d
defrag_ended _ = None

-- What an entry changes of the count of a pool's defragmentations.
abbrev pub DefragsBy : Past → Entry → Counts → Counts → Type 0
DefragsBy past x old new = (k : ℕ) → count_at new k
    ≡ count_at old k + (if is_id k (defrag_in x) then 1 else 0) - (if is_id k (option_and_then (λ d. option_and_then defrag_in (made past d)) (defrag_ended x)) then 1 else 0)
