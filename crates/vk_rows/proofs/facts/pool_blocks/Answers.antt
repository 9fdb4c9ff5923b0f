use Rattle.std.specs.Prelude.{ℕ, ◌≤◌, refl, List, [], ◌∷◌, IsTrue, false}
use Rattle.std.proofs.Common.{inr, arith}
use Rattle.vk_model.specs.Memory.Suballocation.{Taken, is_free}
use Rattle.vk_model.specs.Memory.Room.{Block, General, BlockHolds, CanHold}
use Rattle.vk_model.specs.Memory.MoveTargets.{Numbered}
use Rattle.vk_model.specs.Memory.Pools.{IsLargestIn}
use Rattle.vk_rows.specs.NoRoom.{buffer_at, buffer_of}
use Rattle.vk_rows.specs.PoolBlocks.{holed_ranges}
use Rattle.vk_rows.proofs.ByPlace.{by_place}
use Rattle.vk_rows.proofs.Holding.{nowhere, neither, free_between}
use Rattle.vk_rows.proofs.facts.pool_blocks.Goals as goal

pub returns : goal.returns
returns c = record {
  first_place = (refl, refl);
  next_block = inr (nowhere 4096 first_full (buffer_of 1024) refl, (refl, refl));
  holes = refl;
  statistics = record {
    block_count = refl;
    range_count = refl;
    range_bytes = refl;
    total_bytes = refl;
    longest = longest;
  };
  none_for_half = record { none_holds = neither Refuses holed_block holed_block small small; no_new = refl };
  last_at_place = record { block = hole 1; there = (1, omega arith, refl); number = refl; range = (0, omega arith, refl) };
  by_place = by_place;
  target_of_last = refl;
  target_of_third = refl;
  pass = refl;
  highest_rank = refl;
  ranks_before = refl;
  ranks_after = refl;
  given_back = refl;
  next_number = refl;
  third_block = inr (nowhere 4096 packed_full (buffer_of 1024) refl, (refl, refl));
  its_rank = refl;
  ring = refl;
  no_ring_left = refl;
}
  where
    first_full : List Taken
    first_full = buffer_at 3072 1024 ∷ buffer_at 2048 1024 ∷ buffer_at 1024 1024 ∷ buffer_at 0 1024 ∷ []

    packed_full : List Taken
    packed_full = buffer_at 2048 1024 ∷ buffer_at 0 1024 ∷ buffer_at 3072 1024 ∷ buffer_at 1024 1024 ∷ []

    hole : ℕ → Numbered
    hole n = record { number = n; size = 4096; taken = buffer_at 3072 1024 ∷ buffer_at 1024 1024 ∷ [] }

    holed_block : Block
    holed_block = General 4096 (hole 0).taken

    Refuses : Block → Type 0
    Refuses b = BlockHolds b (buffer_of 2048) false → ⊥

    small : CanHold 4096 (hole 0).taken (buffer_of 2048) → ⊥
    small = nowhere 4096 (hole 0).taken (buffer_of 2048) refl

    NoMore : Numbered → Type 0
    NoMore b = (start n : ℕ) → IsTrue (is_free b.size b.taken start n) → n ≤ 1024

    longest : IsLargestIn holed_ranges 1024
    longest = record { found = inr (0, hole 0, omega arith, refl, (0, refl)); most = neither NoMore (hole 0) (hole 1) free_between free_between }
