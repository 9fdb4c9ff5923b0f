-- Allocations of a pool as they are listed.
use Rattle.std.specs.Prelude.{◌≡◌, ℕ, ◌+◌, ◌<◌, ◌≤◌, ◌⊎◌, List, length, slice_index_or}
use Rattle.vk_model.specs.Memory.MoveTargets.{Resident}
use Rattle.vma_pools.specs.declared.listing.Listed.{Listed}
use Rattle.vma_pools.specs.State.{request_in, start_of}

-- One as a resource.
abbrev pub resident : Listed → Resident
resident l = record { id = l.number; from = start_of l.place; request = request_in l.asked }

-- One isn't above another.
abbrev pub IsNotAbove : Listed → Listed → Type 0
IsNotAbove a b = (a.place.block < b.place.block) ⊎ ((a.place.block ≡ b.place.block) × (a.place.start ≤ b.place.start))

-- None is above the next.
abbrev pub AreInOrder : List Listed → Type 0
AreInOrder xs = (k : ℕ) (d : Listed) → k + 1 < length xs → IsNotAbove (slice_index_or xs k d) (slice_index_or xs (k + 1) d)
