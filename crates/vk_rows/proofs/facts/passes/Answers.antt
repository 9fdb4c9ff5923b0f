use Rattle.std.specs.Prelude.{◌≡◌, ℕ, ◌+◌, ◌<◌, ◌≤◌, refl, [], ◌∷◌, AllPairs}
use Rattle.std.proofs.Common.{inl, arith}
use Rattle.std.proofs.lemmas.List.Elements.{All-from_recursion}
use Rattle.std.proofs.lemmas.List.Sorted.{IsPermutation-refl}
use Rattle.vk_model.specs.Memory.MoveTargets.{Numbered, Resident, Moved}
use Rattle.vk_model.specs.Memory.Pools.{IsHigher, PoolBlock, block_bytes}
use Rattle.vk_model.specs.Memory.Allocations.{Allocated, PassBegins, ReachesWith}
use Rattle.vk_model.specs.Memory.PassLaws.{IsRanked, IsPlaceIn, AllArePlaced}
use Rattle.vk_rows.specs.NoRoom.{buffer_at, buffer_of}
use Rattle.vk_rows.specs.PoolBlocks.{at_place, left, from_above, holed, holed_ranges}
use Rattle.vk_rows.specs.Stops.{usual}
use Rattle.vk_rows.specs.Claims.{on_rows}
use Rattle.vk_rows.specs.Passes.{outside, inside, unlimited, two_parts, large_pass}
use Rattle.vk_rows.proofs.Holding.{may_grow, first_holds}
use Rattle.vk_rows.proofs.ByPlace.{by_place, ids_apart}
use Rattle.vk_model.proofs.Memory.PassBegins.{passes_lead_down}
use Rattle.vk_rows.proofs.facts.passes.Goals as goal

pub returns : goal.returns
unfolding on_rows
returns c = record {
  ranked = ranked;
  placed = placed;
  begins = begins;
  down = passes_lead_down.down 4096 unlimited outside inside ranked begins;
  sum_outside = refl;
  sum_inside = refl;
  both_made = refl;
  one_kept = refl;
  one_lost = refl;
  two_moves = (inside, begins, (_, refl, refl));
  one_move = (inside, begins, (_, refl, (refl, refl)));
  none_left = refl;
  one_part_each = refl;
  larger = refl;
  reached = reached;
  copied_first = refl;
  copied_at_end = refl;
}
  where
    begins : PassBegins unlimited outside inside
    begins = (from_above, by_place, refl)

    ranked : IsRanked 4096 outside
    ranked = record {
      sizes = All-from_recursion (λ (b : PoolBlock). block_bytes b.block ≡ 4096) holed.blocks (refl, (refl, tt));
      before_next = All-from_recursion (λ (b : PoolBlock). b.number < holed.next) holed.blocks (omega arith, (omega arith, tt));
      ids = ids_apart left (refl, (refl, (refl, (refl, tt))));
      some = All-from_recursion (λ (a : Resident). 16 ≤ a.request.size) left (omega arith, (omega arith, (omega arith, (omega arith, tt))));
    }

    block : ℕ → Numbered
    block n = record { number = n; size = 4096; taken = buffer_at 3072 1024 ∷ buffer_at 1024 1024 ∷ [] }

    first : (s : ℕ) → s + 16 ≤ 4096 → IsPlaceIn 4096 holed_ranges (at_place 0 s)
    first s low = record { block = block 0; there = (0, omega arith, refl); number = refl; inside = low }

    second : (s : ℕ) → s + 16 ≤ 4096 → IsPlaceIn 4096 holed_ranges (at_place 1 s)
    second s low = record { block = block 1; there = (1, omega arith, refl); number = refl; inside = low }

    placed : AllArePlaced 4096 outside
    placed = record {
      residents = All-from_recursion (λ (a : Resident). IsPlaceIn 4096 holed_ranges a.from) left (first 1024 (omega arith), (first 3072 (omega arith), (second 1024 (omega arith), (second 3072 (omega arith), tt))));
      targets = All-from_recursion (λ (m : Moved). IsPlaceIn 4096 holed_ranges m.to) [] tt;
    }

    large : Resident
    large = record { id = 11; from = at_place 0 5008; request = buffer_of 5008 }

    alone : AllPairs (λ (a b : Resident). IsHigher a.from b.from) (large ∷ [])
    alone = λ i j d less there. absurd (omega arith)

    reached : (d : Allocated) × ReachesWith two_parts usual large_pass d
    reached = (
      _,
      (
        _,
        (λ h. h),
        refl,
        refl,
        (
          _,
          may_grow _ _ _ _ refl,
          (at_place 0 0, (refl, refl), refl),
          refl,
          (
            _,
            first_holds _ _ _ _ _ _ refl (5008, refl),
            (at_place 0 5008, inl (refl, refl), refl),
            refl,
            (
              _,
              (λ h. h),
              refl,
              refl,
              (
                _,
                (λ h. h),
                refl,
                refl,
                (
                  _,
                  (λ h. h),
                  (_, (large ∷ [], record { same = IsPermutation-refl _; falling = alone }, refl), refl),
                  refl,
                  (
                    _,
                    (λ h. h),
                    refl,
                    refl,
                    (
                      _,
                      (λ h. h),
                      refl,
                      refl,
                      refl,
                    ),
                  ),
                ),
              ),
            ),
          ),
        ),
      ),
    )
