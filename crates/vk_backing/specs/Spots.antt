-- Where resources lie in pools.
use Rattle.std.specs.Prelude.{◌≡◌, ℕ, ◌+◌, ◌<◌, ◌≤◌, ◌⊎◌, length, Some}
use Rattle.vk_memory.specs.MemoryState.{MemoryState, IsLive, region_of}
use Rattle.vk_model.specs.declared.resource.Spot.{Spot}
use Rattle.vk_backing.specs.Backed.{Backed, object_of, allocation_of, info_by, LiesIn}

-- Each resource that has an allocation lies at one spot: some bytes, all of a live memory object that no id has of its own; and no two resources share a byte (Vulkan, "Resource Memory Association" and "Memory Aliasing").
pub record AreSpots (b : Backed) (m : MemoryState) : Type 0 where
  pub there : (id a : ℕ) → allocation_of b id ≡ Some a → (p : ℕ) × (s : Spot) × LiesIn b id p s
  pub one : (id p q : ℕ) (s t : Spot) → LiesIn b id p s → LiesIn b id q t → (p ≡ q) × (s ≡ t)
  pub live : (id p : ℕ) (s : Spot) → LiesIn b id p s → IsLive m s.memory
  pub some : (id p : ℕ) (s : Spot) → LiesIn b id p s → 0 < s.size
  pub room : (id p : ℕ) (s : Spot) → LiesIn b id p s → s.offset + s.size ≤ length (region_of m s.memory)
  pub unowned : (id p i : ℕ) (s : Spot) → LiesIn b id p s → object_of b i ≡ Some s.memory → ⊥
  pub apart : (i j p q : ℕ) (s t : Spot) → LiesIn b i p s → LiesIn b j q t → (i ≡ j → ⊥) → s.memory ≡ t.memory → (s.offset + s.size ≤ t.offset) ⊎ (t.offset + t.size ≤ s.offset)

-- What lies in pools lies where it did, but for one id (Vulkan, "Resource Memory Association").
abbrev pub KeepsSpots : Backed → Backed → ℕ → Type 0
KeepsSpots old new id = (i p : ℕ) (s : Spot) → (i ≡ id → ⊥) → LiesIn old i p s → LiesIn new i p s

-- The pool of each id but one was made with the same (VMA, "Custom memory pools").
abbrev pub KeepsInfos : Backed → Backed → ℕ → Type 0
KeepsInfos old new id = (i : ℕ) → (i ≡ id → ⊥) → info_by new i ≡ info_by old i

-- The pools of all ids were made with the same.
abbrev pub KeepsAllInfos : Backed → Backed → Type 0
KeepsAllInfos old new = (i : ℕ) → info_by new i ≡ info_by old i
