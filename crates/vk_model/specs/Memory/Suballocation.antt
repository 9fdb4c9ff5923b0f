-- A block of memory of which ranges are taken, as a suballocator is seen.
use Rattle.std.specs.Prelude.{◌≡◌, ℕ, ◌+◌, ◌-◌, ◌/◌, ◌%◌, ◌<◌, ◌≤◌, ◌⊎◌, ◌&&◌, ◌||◌, not, nat_le, nat_lt, Bool, true, false, List, ◌∷◌, IsTrue, IsPermutation, All, Any, AllPairs}
use Rattle.std.specs.List.{list_any}
use Rattle.vk_model.specs.declared.resource.Kind.{Kind}
use Rattle.vk_model.specs.declared.resource.Kind.TheVariants as kind

-- A range of bytes that is taken, and how the bytes of its resource lie (VMA, "Virtual allocator").
pub record Taken : Type 0 where
  pub start : ℕ
  pub size : ℕ
  pub kind : Kind

-- What is asked of a block (VMA, "Virtual allocator").
pub record Request : Type 0 where
  pub size : ℕ
  pub align : ℕ
  pub kind : Kind

-- A size and an alignment that may be asked for: multiples of 16; 16, 64 or 256 (profile).
pub record IsRequest (size align : ℕ) : Type 0 where
  pub some : 0 < size
  pub units : size % 16 ≡ 0
  pub aligned : (align ≡ 16) ⊎ (align ≡ 64) ⊎ (align ≡ 256)

-- The bytes of two resources lie in the same way (Vulkan, "Resource Memory Association", on linear and non-linear resources).
abbrev pub same_kind : Kind → Kind → Bool
same_kind kind.Linear kind.Linear = true
same_kind kind.Optimal kind.Optimal = true
same_kind _ _ = false

-- Two ranges of bytes have one in common; an empty range meets nothing.
abbrev pub ranges_meet : ℕ → ℕ → ℕ → ℕ → Bool
ranges_meet a n b m = nat_lt 0 n && nat_lt 0 m && nat_lt a (b + m) && nat_lt b (a + n)

-- Two ranges have bytes on one page of `bufferImageGranularity` (Vulkan, "Resource Memory Association"; the page's 1,024 bytes: profile).
abbrev pub share_page : ℕ → ℕ → ℕ → ℕ → Bool
share_page a n b m = nat_lt 0 n && nat_lt 0 m && nat_le (a / 1024) ((b + m - 1) / 1024) && nat_le (b / 1024) ((a + n - 1) / 1024)

-- They meet, or share a page while one is linear and the other optimal (Vulkan, "Resource Memory Association", on aliasing).
abbrev pub conflict : Kind → ℕ → ℕ → Kind → ℕ → ℕ → Bool
conflict k a n l b m = ranges_meet a n b m || not (same_kind k l) && share_page a n b m

-- What a request would take at a start.
abbrev pub taken_at : ℕ → Request → Taken
taken_at start r = record { start = start; size = r.size; kind = r.kind }

-- Two ranges that are taken don't conflict.
abbrev pub IsApart : Taken → Taken → Type 0
IsApart r s = conflict r.kind r.start r.size s.kind s.start s.size ≡ false

-- Each range lies in the block, and no two conflict (VMA, "Virtual allocator").
pub record IsSound (size : ℕ) (taken : List Taken) : Type 0 where
  pub inside : All (λ r. r.start + r.size ≤ size) taken
  pub apart : AllPairs IsApart taken

-- The request was put at an aligned start.
pub record Puts (old new : List Taken) (r : Request) (start : ℕ) : Type 0 where
  pub aligned : start % r.align ≡ 0
  pub added : IsPermutation new (taken_at start r ∷ old)

-- Some range starts here.
abbrev pub IsTakenAt : ℕ → List Taken → Type 0
IsTakenAt start taken = Any (λ r. r.start ≡ start) taken

-- The range at this start was taken away.
abbrev pub TakesAway : List Taken → List Taken → ℕ → Type 0
TakesAway old new start = (r : Taken) × (r.start ≡ start) × IsPermutation old (r ∷ new)

-- No byte of the range is taken.
abbrev pub is_free : ℕ → List Taken → ℕ → ℕ → Bool
is_free size taken start n = nat_le (start + n) size && not (list_any (λ r. ranges_meet r.start r.size start n) taken)

-- The length of the longest range of which no byte is taken (VMA, "Statistics").
pub record IsLargestFree (size : ℕ) (taken : List Taken) (largest : ℕ) : Type 0 where
  pub start : ℕ
  pub free : IsTrue (is_free size taken start largest)
  pub most : (other n : ℕ) → IsTrue (is_free size taken other n) → n ≤ largest
