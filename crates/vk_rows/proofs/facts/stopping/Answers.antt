use Rattle.std.proofs.Common.{inl, inr, List, [], ◌∷◌, ◌++◌, false, refl, arith}
use Rattle.std.specs.Prelude.{AllPairs}
use Rattle.std.proofs.lemmas.List.Elements.{All-from_recursion}
use Rattle.std.proofs.lemmas.List.Kept.{AllPairs-cons}
use Rattle.std.proofs.lemmas.List.Sorted.{IsPermutation-refl}
use Rattle.vk_model.specs.Memory.Suballocation.{Taken}
use Rattle.vk_model.specs.Memory.Room.{Block, General, BlockHolds}
use Rattle.vk_model.specs.Memory.MoveTargets.{Resident}
use Rattle.vk_model.specs.Memory.Pools.{IsHigher}
use Rattle.vk_rows.specs.NoRoom.{buffer_at, buffer_of}
use Rattle.vk_rows.specs.Places.{resident}
use Rattle.vk_rows.specs.PoolBlocks.{at_place}
use Rattle.vk_rows.specs.Stops.{HasRoom, usual, ring, holed, defragmented, in_pool}
use Rattle.vk_rows.proofs.Holding.{nowhere, absent, no_other, may_grow, first_holds}
use Rattle.vk_rows.proofs.facts.stopping.Goals as goal

pub returns : goal.returns
returns c = record {
  heap_used = (_, record { reached = (_, absent, refl, refl); stopped = _; here = refl; no_room = refl });
  memory_used = (_, record { reached = (_, absent, refl, refl); stopped = _; here = refl; no_room = refl });
  memory_freed = (_, (_, absent, refl, (_, (λ h. h), refl, (_, absent, refl, refl))));
  ring_full = (
    turned.0,
    record {
      reached = turned.1;
      stopped = _;
      here = refl;
      no_room = record { none_holds = no_other (λ (b : Block). BlockHolds b (buffer_of 16) false → ⊥) _ absent; no_new = refl };
    },
  );
  ring_turned = turned;
  holes = (
    left.0,
    record {
      reached = left.1;
      stopped = _;
      here = refl;
      no_room = record { none_holds = no_other (λ (b : Block). BlockHolds b (buffer_of 2048) false → ⊥) (General 4096 gaps) (nowhere 4096 gaps (buffer_of 2048) refl); no_new = refl };
    },
  );
  holes_closed = closed;
}
  where
    gaps : List Taken
    gaps = buffer_at 3072 1024 ∷ buffer_at 1024 1024 ∷ []

    turned : HasRoom usual ring
    turned = (
      _,
      (
        _,
        (λ h. h),
        refl,
        (
          _,
          may_grow _ _ _ _ refl,
          (at_place 0 0, (refl, refl), refl),
          (
            _,
            first_holds _ _ _ _ _ _ refl refl,
            (at_place 0 2048, inl (refl, refl), refl),
            (
              _,
              (λ h. h),
              refl,
              (
                _,
                first_holds _ _ _ _ _ _ refl refl,
                (at_place 0 0, inl (refl, refl), refl),
                (
                  _,
                  first_holds _ _ _ _ _ _ refl refl,
                  (at_place 0 1024, inl (refl, refl), refl),
                  refl,
                ),
              ),
            ),
          ),
        ),
      ),
    )

    left : HasRoom usual holed
    left = (
      _,
      (
        _,
        (λ h. h),
        refl,
        (
          _,
          may_grow _ _ _ _ refl,
          (at_place 0 0, (refl, refl), refl),
          (
            _,
            first_holds _ _ _ _ _ _ refl (1024, refl),
            (at_place 0 1024, inl (refl, refl), refl),
            (
              _,
              first_holds _ _ _ _ _ _ refl (2048, refl),
              (at_place 0 2048, inl (refl, refl), refl),
              (
                _,
                first_holds _ _ _ _ _ _ refl (3072, refl),
                (at_place 0 3072, inl (refl, refl), refl),
                (
                  _,
                  (λ h. h),
                  refl,
                  (
                    _,
                    (λ h. h),
                    refl,
                    refl,
                  ),
                ),
              ),
            ),
          ),
        ),
      ),
    )

    Higher : Resident → Resident → Type 0
    Higher a b = IsHigher a.from b.from

    falling : AllPairs Higher (resident 13 0 3072 ∷ resident 11 0 1024 ∷ [])
    falling =
        let a = resident 11 0 1024 in
        let b = resident 13 0 3072 in
        AllPairs-cons Higher b (a ∷ []) (All-from_recursion (Higher b) (a ∷ []) (inr (refl, omega arith), tt))
        (AllPairs-cons Higher a [] (All-from_recursion (Higher a) [] tt) (λ i j d less there. absurd (omega arith)))

    closed : HasRoom usual (holed ++ defragmented ++ in_pool 20 2048 ∷ [])
    closed = (
      _,
      (
        _,
        (λ h. h),
        refl,
        (
          _,
          may_grow _ _ _ _ refl,
          (at_place 0 0, (refl, refl), refl),
          (
            _,
            first_holds _ _ _ _ _ _ refl (1024, refl),
            (at_place 0 1024, inl (refl, refl), refl),
            (
              _,
              first_holds _ _ _ _ _ _ refl (2048, refl),
              (at_place 0 2048, inl (refl, refl), refl),
              (
                _,
                first_holds _ _ _ _ _ _ refl (3072, refl),
                (at_place 0 3072, inl (refl, refl), refl),
                (
                  _,
                  (λ h. h),
                  refl,
                  (
                    _,
                    (λ h. h),
                    refl,
                    (
                      _,
                      (λ h. h),
                      refl,
                      (
                        _,
                        (λ h. h),
                        (_, (resident 13 0 3072 ∷ resident 11 0 1024 ∷ [], record { same = IsPermutation-refl _; falling = falling }, refl), refl),
                        (
                          _,
                          (λ h. h),
                          refl,
                          (
                            _,
                            (λ h. h),
                            refl,
                            (
                              _,
                              first_holds _ _ _ _ _ _ refl (2048, refl),
                              (at_place 0 2048, inl (refl, refl), refl),
                              refl,
                            ),
                          ),
                        ),
                      ),
                    ),
                  ),
                ),
              ),
            ),
          ),
        ),
      ),
    )
