-- Whether an entry finds room, and what is allocated when it has been applied.
use Rattle.std.proofs.Common.{◌≡◌, ℕ, List, refl, sym, subst}
use Rattle.vk_model.specs.declared.command.Length.{Length}
use Rattle.vk_model.specs.declared.entry.Entry.{Entry}
use Rattle.vk_model.specs.declared.entry.Entry.TheVariants as entry
use Rattle.vk_model.specs.declared.resource.BufferInfo.{BufferInfo}
use Rattle.vk_model.specs.declared.resource.MemoryInfo.{MemoryInfo}
use Rattle.vk_model.specs.declared.resource.PoolInfo.{PoolInfo}
use Rattle.vk_model.specs.declared.resource.ImageInfo.{ImageInfo}
use Rattle.vk_model.specs.Trace.Point.{Past}
use Rattle.vk_model.specs.Memory.Allocations.{Allocated, without}
use Rattle.vk_backing.specs.Allotted.{Allotted, Fulfils}
use Rattle.vk_resources.specs.declared.applied.Applied.TheVariants as applied
use Rattle.vk_resources.specs.Held.{Held}
use Rattle.vk_resources.specs.Allocating.{allotted, IsAllocated, NoRoomIsExact, Allots}
use Rattle.vk_resources.specs.Fits.{FitsEntry}
use Rattle.vk_resources.specs.Inner.Steps.{Ends}
use Rattle.vk_resources.proofs.Resting.{IsRest}

-- ---- as each entry asks

-- what is held the same is allocated the same
pub same_allocated : (old new : Held) (d : Allocated) → allotted new ≡ allotted old → IsAllocated old d → IsAllocated new d
same_allocated old new d same al = subst (λ (a : Allotted). Fulfils a d) (sym same) al

pub free_allots : (old new : Held) (y : Entry) (m : ℕ) → y ≡ entry.Free m → Ends old new m → Allots applied.Done y old new
free_allots old new y m is ends = subst (λ (x : Entry). Allots applied.Done x old new) (sym is) (λ d al. (without m d, refl, ends.allots d al))

pub destroy_allots : (old new : Held) (y : Entry) (r : ℕ) → y ≡ entry.Destroy r → Ends old new r → Allots applied.Done y old new
destroy_allots old new y r is ends = subst (λ (x : Entry). Allots applied.Done x old new) (sym is) (λ d al. (without r d, refl, ends.allots d al))

pub rest_rooms : (s : Held) (y : Entry) → IsRest y → (past : Past) → FitsEntry past y → NoRoomIsExact applied.Done s y
rest_rooms s (entry.Memory i info) rest past fit = absurd rest
rest_rooms s (entry.Buffer i info) rest past fit = absurd rest
rest_rooms s (entry.Image i info) rest past fit = absurd rest
rest_rooms s _ rest past fit = λ d al none. none

pub rest_allots : (s : Held) (y : Entry) → IsRest y → (past : Past) → FitsEntry past y → Allots applied.Done y s s
rest_allots s (entry.Semaphore i v) rest past fit = λ d al. (d, refl, al)
rest_allots s (entry.Event i) rest past fit = λ d al. (d, refl, al)
rest_allots s (entry.Signal v n) rest past fit = λ d al. (d, refl, al)
rest_allots s (entry.Wait ws) rest past fit = λ d al. (d, refl, al)
rest_allots s (entry.Submit q bs) rest past fit = λ d al. (d, refl, al)
rest_allots s (entry.Memory i info) rest past fit = absurd rest
rest_allots s (entry.Buffer i info) rest past fit = absurd rest
rest_allots s (entry.Image i info) rest past fit = absurd rest
rest_allots s (entry.Pool i info) rest past fit = absurd rest
rest_allots s (entry.DropPool i) rest past fit = absurd rest
rest_allots s (entry.Free i) rest past fit = absurd rest
rest_allots s (entry.Destroy i) rest past fit = absurd rest
rest_allots s (entry.Write b o bytes) rest past fit = absurd rest
rest_allots s (entry.Read b o n) rest past fit = absurd rest
rest_allots s (entry.Flush b o n) rest past fit = absurd rest
rest_allots s (entry.Invalidate b o n) rest past fit = absurd rest
rest_allots s (entry.Map b) rest past fit = absurd rest
rest_allots s (entry.Unmap b) rest past fit = absurd rest
rest_allots s _ rest past fit = absurd fit

-- what isn't the one or the other is done nothing for
pub is_rest : (y : Entry) → ((i : ℕ) (info : MemoryInfo) → y ≡ entry.Memory i info → ⊥) → ((i : ℕ) (info : BufferInfo) → y ≡ entry.Buffer i info → ⊥) → ((i : ℕ) (info : ImageInfo) → y ≡ entry.Image i info → ⊥) → ((p : ℕ) (info : PoolInfo) → y ≡ entry.Pool p info → ⊥) → ((p : ℕ) → y ≡ entry.DropPool p → ⊥) → ((m : ℕ) → y ≡ entry.Free m → ⊥) → ((r : ℕ) → y ≡ entry.Destroy r → ⊥)
    → ((b o : ℕ) (bytes : List ℕ) → y ≡ entry.Write b o bytes → ⊥) → ((b o n : ℕ) → y ≡ entry.Read b o n → ⊥) → ((b o : ℕ) (n : Length) → y ≡ entry.Flush b o n → ⊥) → ((b o : ℕ) (n : Length) → y ≡ entry.Invalidate b o n → ⊥) → ((b : ℕ) → y ≡ entry.Map b → ⊥) → ((b : ℕ) → y ≡ entry.Unmap b → ⊥) → IsRest y
is_rest (entry.Memory i info) memory buffer image pool drop free destroy write read flush invalidate map unmap = memory i info refl
is_rest (entry.Buffer i info) memory buffer image pool drop free destroy write read flush invalidate map unmap = buffer i info refl
is_rest (entry.Image i info) memory buffer image pool drop free destroy write read flush invalidate map unmap = image i info refl
is_rest (entry.Pool p info) memory buffer image pool drop free destroy write read flush invalidate map unmap = pool p info refl
is_rest (entry.DropPool p) memory buffer image pool drop free destroy write read flush invalidate map unmap = drop p refl
is_rest (entry.Free m) memory buffer image pool drop free destroy write read flush invalidate map unmap = free m refl
is_rest (entry.Destroy r) memory buffer image pool drop free destroy write read flush invalidate map unmap = destroy r refl
is_rest (entry.Write b o bytes) memory buffer image pool drop free destroy write read flush invalidate map unmap = write b o bytes refl
is_rest (entry.Read b o n) memory buffer image pool drop free destroy write read flush invalidate map unmap = read b o n refl
is_rest (entry.Flush b o n) memory buffer image pool drop free destroy write read flush invalidate map unmap = flush b o n refl
is_rest (entry.Invalidate b o n) memory buffer image pool drop free destroy write read flush invalidate map unmap = invalidate b o n refl
is_rest (entry.Map b) memory buffer image pool drop free destroy write read flush invalidate map unmap = map b refl
is_rest (entry.Unmap b) memory buffer image pool drop free destroy write read flush invalidate map unmap = unmap b refl
is_rest _ memory buffer image pool drop free destroy write read flush invalidate map unmap = tt
