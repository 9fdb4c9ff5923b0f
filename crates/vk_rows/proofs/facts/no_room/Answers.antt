use Rattle.std.specs.Prelude.{ℕ, refl, false}
use Rattle.vk_model.specs.Memory.Room.{Block, General, BlockHolds, CanHold}
use Rattle.vk_rows.specs.NoRoom.{holed, halves, ring, stacks, buffer_of}
use Rattle.vk_rows.proofs.Holding.{nowhere, absent, neither, no_other}
use Rattle.vk_rows.proofs.facts.no_room.Goals as goal

pub returns : goal.returns
returns c = record {
  heap_used = refl;
  heap_fits = refl;
  small_heap_used = refl;
  usual_heap_fits = refl;
  most_objects = refl;
  one_more_object = refl;
  holes = record { none_holds = neither (refuses 2048) (General 4096 holed) (General 4096 holed) small small; no_new = refl };
  block_full = record { none_holds = no_other (refuses 16) (General 65536 halves) full; no_new = refl };
  ring_full = record { none_holds = no_other (refuses 16) ring absent; no_new = refl };
  stacks_meet = record { none_holds = no_other (refuses 16) stacks absent; no_new = refl };
}
  where
    refuses : ℕ → Block → Type 0
    refuses n b = BlockHolds b (buffer_of n) false → ⊥

    small : CanHold 4096 holed (buffer_of 2048) → ⊥
    small = nowhere 4096 holed (buffer_of 2048) refl

    full : CanHold 65536 halves (buffer_of 16) → ⊥
    full = nowhere 65536 halves (buffer_of 16) refl
