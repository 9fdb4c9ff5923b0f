-- That the passes of a pool come to an end.
use Rattle.std.specs.Prelude.{◌≡◌, ℕ, List, [], Some, IsTrue, All}
use Rattle.vk_model.specs.declared.entry.Entry.{Entry}
use Rattle.vk_model.specs.Memory.Allocations.{Allocated, Applied, PoolMemory, pool_by_id}
use Rattle.vk_model.specs.Memory.PassTraces.{AllSparePool, PassesFall, makes_none_in, moves_made}
use Rattle.vk_resources.specs.Allocating.{IsAllocated}
use Rattle.vk_resources.specs.Held.{Held}

-- While no resource is made in a pool its passes come to an end: where none of it is open, and whichever entries are applied, the sum of the ranks of its resources with the moves that are made never rises, and at most as many passes of it end with a move that was made as it has resources times places of 16 bytes (VMA, "Defragmentation"; places: profile).
abbrev pub PassesEndFrom : Held → Type 0
PassesEndFrom r =
    (d : Allocated) → IsAllocated r d → (p : ℕ) (q : PoolMemory) → pool_by_id p d ≡ Some q → q.moves ≡ [] → (xs : List Entry) (e : Allocated) (h : Applied d xs e) → All (λ x. IsTrue (makes_none_in p x)) xs → AllSparePool p d xs e h
    → PassesFall q.pool.info.block_size p q (moves_made p d xs e h) e
