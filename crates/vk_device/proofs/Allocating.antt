-- What a device has allocated, entry by entry.
use Rattle.std.proofs.Common.{◌≡◌, ℕ, [], Bool, true, false, refl, ap, sym, ◌∙◌, subst}
use Rattle.std.specs.Prelude.{if◌then◌else◌}
use Rattle.vk_memory.specs.MemoryState.{MemoryState}
use Rattle.vk_model.specs.Memory.HeapSizes.{HeapSizes}
use Rattle.vk_model.specs.declared.entry.Entry.{Entry}
use Rattle.vk_model.specs.Memory.Allocations.{Allocated, heaps_of, nothing_allocated}
use Rattle.vk_resources.specs.declared.applied.Applied.{Applied}
use Rattle.vk_resources.specs.declared.applied.Applied.TheVariants as applied
use Rattle.vk_backing.specs.Allotted as backing
use Rattle.vk_backing.specs.Allotted.{Allotted, Fulfils}
use Rattle.vk_backing.specs.Backed.{Backed}
use Rattle.vk_backing.specs.Passing.{Passing}
use Rattle.vk_backing.specs.PassAllots.{FulfilsAll, StaysAllotted}
use Rattle.vk_resources.specs.Allocating.{allotted, NoRoomIsExact, IsAllocated}
use Rattle.vk_resources.specs.Held.{Held}
use Rattle.vk_device.specs.Empty.{nothing_backed, none_begun}
use Rattle.vk_device.specs.Passes.{AllotsAll}

-- nothing is allocated at first
pub nothing_first : (sizes : HeapSizes) (r : Held) (p : Passing) → r.memory ≡ record { sizes = sizes; objects = [] } → r.backed ≡ nothing_backed → p ≡ none_begun → FulfilsAll (allotted r) p (nothing_allocated sizes)
nothing_first sizes r p empty bare passes =
    subst (λ (q : Passing). FulfilsAll (allotted r) q (nothing_allocated sizes)) (sym passes)
    (subst (λ (a : Allotted). FulfilsAll a none_begun (nothing_allocated sizes)) (sym (ap (λ (m : MemoryState). backing.allotted r.backed m) empty ∙ ap (λ (b : Backed). backing.allotted b (record { sizes = sizes; objects = [] })) bare))
    (record {
      resources = record { sizes = refl; used = unused; count = refl; objects = λ id. refl; pools = λ id. refl };
      moves = λ id n q named there. absurd cc;
      defrags = λ id. refl;
    }))
  where
    unused : (first : Bool) → (heaps_of (nothing_allocated sizes)).used (if first then 0 else 1) ≡ 0
    unused true = refl
    unused false = refl

-- what is allotted the same is allocated the same
same_allocated : (old new : Held) → allotted new ≡ allotted old → (d : Allocated) → IsAllocated old d → IsAllocated new d
same_allocated old new same d is = subst (λ (a : Allotted). Fulfils a d) (sym same) is

-- room is found before pieces run as after them
pub rooms_before : (a : Applied) (x : Entry) (old mid : Held) → allotted mid ≡ allotted old → NoRoomIsExact a mid x → NoRoomIsExact a old x
rooms_before applied.NoRoom x old mid same rooms = λ d is. rooms d (same_allocated old mid same d is)
rooms_before applied.Done x old mid same rooms = λ d is. rooms d (same_allocated old mid same d is)
rooms_before (applied.Bytes bytes) x old mid same rooms = λ d is. rooms d (same_allocated old mid same d is)

-- what is allotted the same, with the same passes, is allocated the same
pub stays_same : (old new : Held) (p q : Passing) → allotted new ≡ allotted old → q ≡ p → StaysAllotted (allotted old) p (allotted new) q
stays_same old new p q same passes d is = subst (λ (r : Passing). FulfilsAll (allotted new) r d) (sym passes) (subst (λ (a : Allotted). FulfilsAll a p d) (sym same) is)

-- and an entry changes of it what it does by itself
pub allots_through : (a : Applied) (x : Entry) (old : Held) (p : Passing) (mid : Held) (q : Passing) (new : Held) (r : Passing) → StaysAllotted (allotted old) p (allotted mid) q → AllotsAll a x mid q new r → AllotsAll a x old p new r
allots_through applied.NoRoom x old p mid q new r stays allots = λ d is. allots d (stays d is)
allots_through applied.Done x old p mid q new r stays allots = λ d is. allots d (stays d is)
allots_through (applied.Bytes bytes) x old p mid q new r stays allots = λ d is. allots d (stays d is)
