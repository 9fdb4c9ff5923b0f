-- The heaps of a device, by what is allotted.
use Rattle.std.proofs.Common.{◌≡◌, ℕ, ◌+◌, List, [], ◌∷◌, map, length, Bool, true, false, ◌==◌, ◌||◌, Option, Some, None, refl, sym, ap, ◌∙◌, arith}
use Rattle.std.specs.Prelude.{if◌then◌else◌, nat_lt, nat_le, sum_by, IsTrue}
use Rattle.std.proofs.lemmas.List.Sums.{sum_by-cons}
use Rattle.vk_memory.specs.declared.memories.Object.{Object}
use Rattle.vk_memory.specs.MemoryState.{MemoryState, IsFull, size_on, sizes_on, counted, live_count}
use Rattle.vk_model.specs.Memory.HeapSizes.{HeapSizes}
use Rattle.vk_model.specs.Memory.Suballocation.{Request}
use Rattle.vk_model.specs.Memory.Room.{heap_of, no_object, PoolState, NoRoomInPool}
use Rattle.vk_model.specs.Memory.Allocations.{Allocated, heaps_of}
use Rattle.vma_pools.specs.Pools.{heaps}
use Rattle.vma_pools.proofs.RoomLemmas.{full-object, object-full}
use Rattle.vk_backing.specs.Backed.{Backed}
use Rattle.vk_backing.specs.Allotted.{allotted, kind_of, bytes_on, one_if, Fulfils}

-- ---- sums over memory objects, by their kinds

kind_bytes : (first : Bool) (o : Option Object) → bytes_on first (kind_of o) ≡ size_on first o
kind_bytes first None = refl
kind_bytes true (Some o) = refl
kind_bytes false (Some o) = refl

kind_count : (o : Option Object) → one_if (kind_of o) ≡ counted o
kind_count None = refl
kind_count (Some o) = refl

sum_kinds : (f : Option (ℕ × ℕ) → ℕ) (g : Option Object → ℕ) → ((o : Option Object) → f (kind_of o) ≡ g o) → (os : List (Option Object)) → sum_by f (map kind_of os) ≡ sum_by g os
sum_kinds f g same [] = refl
sum_kinds f g same (o ∷ os) =
    let a = sum_by-cons f (kind_of o) (map kind_of os) in let b = sum_by-cons g o os in let c = same o in let r = sum_kinds f g same os in omega (arith, a, b, c, r)

-- ---- room

module _ (b : Backed) (m : MemoryState) (d : Allocated) (is : Fulfils (allotted b m) d) where
  used_at : (first : Bool) → (heaps_of d).used (if first then 0 else 1) ≡ sizes_on first m.objects
  used_at first = is.used first ∙ sum_kinds (bytes_on first) (size_on first) (kind_bytes first) m.objects

  counted_at : (heaps_of d).objects ≡ live_count m.objects
  counted_at = is.count ∙ sum_kinds one_if counted kind_count m.objects

  used_of : (t : ℕ) → (heaps_of d).used (heap_of t) ≡ (heaps m).used (heap_of t)
  used_of t = go (t == 0)
    where
      go : (v : Bool) → (heaps_of d).used (if v then 0 else 1) ≡ sizes_on ((if v then 0 else 1) == 0) m.objects
      go true = used_at true
      go false = used_at false

  pub same_object : (t size : ℕ) → no_object (heaps_of d) t size ≡ no_object (heaps m) t size
  same_object t size =
      ap (λ (z : HeapSizes). nat_lt (if heap_of t == 0 then z.heap0 else z.heap1) ((heaps_of d).used (heap_of t) + size) || nat_le 4096 (heaps_of d).objects) (sym is.sizes)
      ∙ ap (λ (n : ℕ). nat_lt (if heap_of t == 0 then m.sizes.heap0 else m.sizes.heap1) (n + size) || nat_le 4096 (heaps_of d).objects) (used_of t)
      ∙ ap (λ (n : ℕ). nat_lt (if heap_of t == 0 then m.sizes.heap0 else m.sizes.heap1) ((heaps m).used (heap_of t) + size) || nat_le 4096 n) counted_at

  pub full_found : (t size : ℕ) → IsFull m t size → IsTrue (no_object (heaps_of d) t size)
  full_found t size full = same_object t size ∙ full-object m t size full

  pub found_full : (t size : ℕ) → IsTrue (no_object (heaps_of d) t size) → IsFull m t size
  found_full t size found = object-full m t size (sym (same_object t size) ∙ found)

  pub room_found : (p : PoolState) (r : Request) (upper : Bool) → NoRoomInPool (heaps m) p r upper → NoRoomInPool (heaps_of d) p r upper
  room_found p r upper none = record {
    none_holds = none.none_holds;
    no_new = ap (λ (v : Bool). nat_le p.info.block_limit (length p.blocks) || v) (same_object p.info.memory_type p.info.block_size) ∙ none.no_new;
  }

  pub found_room : (p : PoolState) (r : Request) (upper : Bool) → NoRoomInPool (heaps_of d) p r upper → NoRoomInPool (heaps m) p r upper
  found_room p r upper none = record {
    none_holds = none.none_holds;
    no_new = ap (λ (v : Bool). nat_le p.info.block_limit (length p.blocks) || v) (sym (same_object p.info.memory_type p.info.block_size)) ∙ none.no_new;
  }
