use Rattle.std.proofs.Common.{inl, inr, List, [], ◌∷◌, false, refl, arith}
use Rattle.std.specs.Prelude.{AllPairs}
use Rattle.std.proofs.lemmas.List.Elements.{All-from_recursion}
use Rattle.std.proofs.lemmas.List.Kept.{AllPairs-cons}
use Rattle.std.proofs.lemmas.List.Sorted.{IsPermutation-refl}
use Rattle.vk_model.specs.Memory.Suballocation.{Taken}
use Rattle.vk_model.specs.Memory.Room.{Block, General, BlockHolds}
use Rattle.vk_model.specs.Memory.MoveTargets.{Resident}
use Rattle.vk_model.specs.Memory.Pools.{IsHigher}
use Rattle.vk_rows.specs.NoRoom.{buffer_at, buffer_of}
use Rattle.vk_rows.specs.Places.{resident}
use Rattle.vk_rows.specs.PoolBlocks.{at_place}
use Rattle.vk_rows.specs.Claims.{on_rows}
use Rattle.vk_rows.proofs.Holding.{nowhere, absent, no_other, may_grow, first_holds}
use Rattle.vk_rows.proofs.facts.runs_misread.Goals as goal

pub returns : goal.returns
unfolding on_rows
returns c = record {
  move_over_a_limit = (
    _,
    record {
      reached = (_, (λ h. h), refl, (_, may_grow _ _ _ _ refl, (at_place 0 0, (refl, refl), refl), (_, first_holds _ _ _ _ _ _ refl (1024, refl), (at_place 0 1024, inl (refl, refl), refl), (_, first_holds _ _ _ _ _ _ refl (1536, refl), (at_place 0 1536, inl (refl, refl), refl), (_, (λ h. h), refl, (_, (λ h. h), refl, (_, (λ h. h), (_, (larger ∷ smaller ∷ [], record { same = IsPermutation-refl _; falling = both }, refl), refl), (_, (λ h. h), refl, (_, (λ h. h), refl, (_, first_holds _ _ _ _ _ _ refl (1536, refl), (at_place 0 1536, inl (refl, refl), refl), refl))))))))));
      stopped = _;
      here = refl;
      no_room = record { none_holds = no_other (λ (b : Block). BlockHolds b (buffer_of 1536) false → ⊥) (General 4096 after_larger) (nowhere 4096 after_larger (buffer_of 1536) refl); no_new = refl };
    },
  );
  move_over_a_limit_corrected = (_, (_, (λ h. h), refl, (_, may_grow _ _ _ _ refl, (at_place 0 0, (refl, refl), refl), (_, first_holds _ _ _ _ _ _ refl (1024, refl), (at_place 0 1024, inl (refl, refl), refl), (_, first_holds _ _ _ _ _ _ refl (1536, refl), (at_place 0 1536, inl (refl, refl), refl), (_, (λ h. h), refl, (_, (λ h. h), refl, (_, (λ h. h), refl, (_, (λ h. h), (_, (smaller ∷ [], record { same = IsPermutation-refl _; falling = alone }, refl), refl), (_, (λ h. h), refl, (_, first_holds _ _ _ _ _ _ refl (512, refl), (at_place 0 512, inl (refl, refl), refl), (_, first_holds _ _ _ _ _ _ refl (2560, refl), (at_place 0 2560, inl (refl, refl), refl), refl))))))))))));
  target_of_a_kept_move = (
    _,
    record {
      reached = (_, (λ h. h), refl, (_, may_grow _ _ _ _ refl, (at_place 0 0, (refl, refl), refl), (_, first_holds _ _ _ _ _ _ refl (1024, refl), (at_place 0 1024, inl (refl, refl), refl), (_, first_holds _ _ _ _ _ _ refl (2048, refl), (at_place 0 2048, inl (refl, refl), refl), (_, first_holds _ _ _ _ _ _ refl (3072, refl), (at_place 0 3072, inl (refl, refl), refl), (_, (λ h. h), refl, (_, (λ h. h), refl, (_, (λ h. h), (_, (fourth ∷ third ∷ second ∷ [], record { same = IsPermutation-refl _; falling = three }, refl), refl), refl))))))));
      stopped = _;
      here = refl;
      no_room = record { none_holds = no_other (λ (b : Block). BlockHolds b (buffer_of 1024) false → ⊥) (General 4096 both_taken) (nowhere 4096 both_taken (buffer_of 1024) refl); no_new = refl };
    },
  );
  target_of_a_kept_move_corrected = (_, (_, (λ h. h), refl, (_, may_grow _ _ _ _ refl, (at_place 0 0, (refl, refl), refl), (_, first_holds _ _ _ _ _ _ refl (1024, refl), (at_place 0 1024, inl (refl, refl), refl), (_, first_holds _ _ _ _ _ _ refl (2048, refl), (at_place 0 2048, inl (refl, refl), refl), (_, first_holds _ _ _ _ _ _ refl (3072, refl), (at_place 0 3072, inl (refl, refl), refl), (_, (λ h. h), refl, (_, (λ h. h), refl, (_, (λ h. h), (_, (fourth ∷ third ∷ second ∷ [], record { same = IsPermutation-refl _; falling = three }, refl), refl), (_, (λ h. h), refl, (_, first_holds _ _ _ _ _ _ refl (0, refl), (at_place 0 0, inl (refl, refl), refl), refl)))))))))));
  alignment_of_cached_memory = (
    _,
    record {
      reached = (_, (λ h. h), refl, (_, may_grow _ _ _ _ refl, (at_place 0 0, (refl, refl), refl), (_, first_holds _ _ _ _ _ _ refl refl, (at_place 0 320, inl (refl, refl), refl), refl)));
      stopped = _;
      here = refl;
      no_room = record { none_holds = no_other (λ (b : Block). BlockHolds b (record (buffer_of 448) { align = 64 }) false → ⊥) _ absent; no_new = refl };
    },
  );
  alignment_of_cached_memory_corrected = (_, (_, (λ h. h), refl, (_, may_grow _ _ _ _ refl, (at_place 0 0, (refl, refl), refl), (_, first_holds _ _ _ _ _ _ refl refl, (at_place 0 272, inl (refl, refl), refl), (_, first_holds _ _ _ _ _ _ refl refl, (at_place 0 544, inl (refl, refl), refl), refl)))));
  the_piece = refl;
  the_part = refl;
  copy_in_the_pass = (_, (_, ((refl, refl, refl), refl), (_, ((refl, refl, refl), refl), (_, ((refl, refl, refl), refl), (_, ((refl, refl, refl), refl), (_, ((refl, refl, refl), refl), (_, ((refl, refl, refl), refl), (_, (refl, refl), refl))))))), refl);
  no_copy_after_it = (_, (_, ((refl, refl, refl), refl), (_, ((refl, refl, refl), refl), (_, ((refl, refl, refl), refl), (_, ((refl, refl, refl), refl), (_, ((refl, refl, refl), refl), (_, ((refl, refl, refl), refl), (_, (refl, refl), (_, ((refl, refl, refl), refl), refl)))))))), refl);
  written_and_dirty = refl;
  invalidated_and_not = refl;
}
  where
    smaller : Resident
    smaller = record { id = 11; from = at_place 0 1024; request = buffer_of 512 }

    larger : Resident
    larger = resident 12 0 1536

    Higher : Resident → Resident → Type 0
    Higher a b = IsHigher a.from b.from

    none : (a : Resident) → AllPairs Higher (a ∷ [])
    none a = AllPairs-cons Higher a [] (All-from_recursion (Higher a) [] tt) (λ i j d less there. absurd (omega arith))

    alone : AllPairs Higher (smaller ∷ [])
    alone = none smaller

    both : AllPairs Higher (larger ∷ smaller ∷ [])
    both = AllPairs-cons Higher larger (smaller ∷ []) (All-from_recursion (Higher larger) (smaller ∷ []) (inr (refl, omega arith), tt)) (none smaller)

    after_larger : List Taken
    after_larger = buffer_at 1536 2048 ∷ buffer_at 1024 512 ∷ []

    second : Resident
    second = resident 11 0 1024

    third : Resident
    third = resident 12 0 2048

    fourth : Resident
    fourth = resident 13 0 3072

    three : AllPairs Higher (fourth ∷ third ∷ second ∷ [])
    three =
        AllPairs-cons Higher fourth (third ∷ second ∷ []) (All-from_recursion (Higher fourth) (third ∷ second ∷ []) (inr (refl, omega arith), (inr (refl, omega arith), tt)))
        (AllPairs-cons Higher third (second ∷ []) (All-from_recursion (Higher third) (second ∷ []) (inr (refl, omega arith), tt)) (none second))

    both_taken : List Taken
    both_taken = buffer_at 0 1024 ∷ buffer_at 3072 1024 ∷ buffer_at 2048 1024 ∷ buffer_at 1024 1024 ∷ []
