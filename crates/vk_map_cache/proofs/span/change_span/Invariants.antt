use Rattle.std.proofs.Common.{◌≡◌, ◌≤◌, ◌-◌, ℕ, ◌&&◌, nat_lt, nat_le, if◌then◌else◌, length, get_or}
use Rattle.vk_model.specs.Run.Caches.{Cell}
use Rattle.vk_map_cache.specs.Holdings.{IsCell, held_in}
use Rattle.vk_map_cache.specs.Inner.Marks.{changed}
use Rattle.vk_map_cache.proofs.span.change_span.Given as goal

abbrev pub invariant-loop-done : goal.invariant-loop-done
invariant-loop-done l = record {
  after : l.low ≤ l.done;
  most : l.done ≤ l.high;
  object : length l.object ≡ length l.initial.object;
  region : length l.region ≡ length l.initial.region;
  bytes : (k : ℕ) (cell : Cell) → IsCell (held_in l.initial.object k) (get_or l.initial.region k 0) cell
      → IsCell (held_in l.object k) (get_or l.region k 0) (if nat_le l.low k && nat_lt k l.done then changed l.change cell else cell);
}

abbrev pub decreases-loop-done : goal.decreases-loop-done
decreases-loop-done l = l.high - l.done
