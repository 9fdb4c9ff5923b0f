-- What is bound in each memory object.
use Rattle.std.specs.Prelude.{◌≡◌, ◌≤◌, ◌<◌, ◌+◌, ℕ, [], Bool, ◌&&◌, ◌==◌, nat_lt, Option, Some, None, is_some, true, option_and_then, count_by}
use Rattle.std.specs.Ordering.{nat_cmp}
use Rattle.std.specs.BTreeMap.{get}
use Rattle.vk_model.specs.declared.entry.Entry.{Entry}
use Rattle.vk_model.specs.declared.entry.Entry.TheVariants as entry
use Rattle.vk_model.specs.declared.resource.Kind.{Kind}
use Rattle.vk_model.specs.declared.resource.MemoryInfo.{MemoryInfo}
use Rattle.vk_model.specs.declared.resource.Need.{Need}
use Rattle.vk_model.specs.Basics.{holds}
use Rattle.vk_model.specs.Memory.Addresses.{need_of}
use Rattle.vk_model.specs.Trace.Objects.{Resource, made, memory, resource, resource_in, of_buffer, of_image, bound_at, live_resources}
use Rattle.vk_model.specs.Trace.Point.{Past}
use Rattle.vk_buffer.specs.BoundMemory.{BoundMemory, refusal, with_bound, without}
use Rattle.vk_buffer.specs.declared.bindings.BoundResource.{BoundResource}
use Rattle.vk_history.specs.declared.bound.BoundMemories.{BoundMemories}

-- Whether an object is a resource that is bound in a memory object so that a test finds it.
abbrev pub is_bound : ℕ → (ℕ × BoundResource → Bool) → Option Entry → Bool
is_bound m test o = holds (option_and_then resource_in o) (λ r. holds (bound_at r.place) (λ s. m == s.0 && test (s.1, record { size = r.size; kind = r.kind })))

-- How many live resources are.
abbrev pub count_bound : Past → ℕ → (ℕ × BoundResource → Bool) → ℕ
count_bound past m test = count_by (λ i. is_bound m test (made past i)) (live_resources past)

-- What is bound in a memory object are its live resources, no two at one offset; each has bytes.
pub record IsBoundIn (s : BoundMemory) (past : Past) (m : ℕ) : Type 0 where
  pub made : is_some (memory past m) ≡ true
  pub counts : (test : ℕ × BoundResource → Bool) → count_by test s.bound ≡ count_bound past m test
  pub offsets : (o : ℕ) → count_by (λ e. e.0 == o) s.bound ≤ 1
  pub sizes : count_by (λ e. e.1.size == 0) s.bound ≡ 0
  pub ends : count_by (λ e. nat_lt s.size (e.0 + e.1.size)) s.bound ≡ 0
  pub limit : s.size ≤ 67108864

-- The same of what may be no memory object.
abbrev pub IsBoundAt : Option BoundMemory → Past → ℕ → Type 0
IsBoundAt None past m = (test : ℕ × BoundResource → Bool) → count_bound past m test ≡ 0
IsBoundAt (Some s) past m = IsBoundIn s past m

-- What is bound in each.
abbrev pub AreBound : BoundMemories → Past → Type 0
AreBound bound past = (m : ℕ) → IsBoundAt (get nat_cmp bound.memories m) past m

-- ---- changes

-- All but one are as they were.
abbrev pub AreOthers : BoundMemories → BoundMemories → ℕ → Type 0
AreOthers old new m = (other : ℕ) → (other ≡ m → ⊥) → get nat_cmp new.memories other ≡ get nat_cmp old.memories other

-- A resource was bound.
abbrev pub IsBindOf : Option BoundMemory → Option BoundMemory → ℕ → Need → Kind → Type 0
IsBindOf None new o need k = ⊥
IsBindOf (Some s) new o need k = (refusal s o need k ≡ None) × (0 < need.size) × (new ≡ Some (with_bound s o (record { size = need.size; kind = k })))

-- What was bound at an offset isn't any more.
abbrev pub IsUnbindOf : Option BoundMemory → Option BoundMemory → ℕ → Type 0
IsUnbindOf None new o = new ≡ None
IsUnbindOf (Some s) new o = new ≡ Some (without s o)

-- What making a resource changes.
pub record BindsBy (old new : BoundMemories) (r : Resource) : Type 0 where
  pub here : (m o : ℕ) → bound_at r.place ≡ Some (m, o) → IsBindOf (get nat_cmp old.memories m) (get nat_cmp new.memories m) o (need_of r) r.kind × AreOthers old new m
  pub nowhere : bound_at r.place ≡ None → (m : ℕ) → get nat_cmp new.memories m ≡ get nat_cmp old.memories m

-- What the end of what was at a place changes.
pub record UnbindsBy (old new : BoundMemories) (place : Option (ℕ × ℕ)) : Type 0 where
  pub here : (m o : ℕ) → place ≡ Some (m, o) → IsUnbindOf (get nat_cmp old.memories m) (get nat_cmp new.memories m) o × AreOthers old new m
  pub nowhere : place ≡ None → (m : ℕ) → get nat_cmp new.memories m ≡ get nat_cmp old.memories m

-- A memory object was made.
pub record IsMadeIn (old new : BoundMemories) (m : ℕ) (info : MemoryInfo) : Type 0 where
  pub here : get nat_cmp new.memories m ≡ Some (record { size = info.size; memory_type = info.memory_type; bound = [] })
  pub others : AreOthers old new m

-- What an entry changes.
abbrev pub ChangesBound : Past → Entry → BoundMemories → BoundMemories → Type 0
ChangesBound past (entry.Memory i info) old new = IsMadeIn old new i info
ChangesBound past (entry.Buffer i b) old new = BindsBy old new (of_buffer b)
ChangesBound past (entry.Image i n) old new = BindsBy old new (of_image n)
ChangesBound past (entry.Destroy r) old new = UnbindsBy old new (option_and_then (λ q. bound_at q.place) (resource past r))
ChangesBound past _ old new = (m : ℕ) → get nat_cmp new.memories m ≡ get nat_cmp old.memories m
