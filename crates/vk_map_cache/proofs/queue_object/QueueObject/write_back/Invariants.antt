use Rattle.std.proofs.Common.{◌≡◌, ◌≤◌, ◌-◌, ℕ, length, if◌then◌else◌, get_or}
use Rattle.vk_model.specs.Run.Caches.{Cell, written_back}
use Rattle.vk_map_cache.specs.Holdings.{IsCellOf, held_in, is_between}
use Rattle.vk_map_cache.proofs.queue_object.QueueObject.write_back.Given as goal

abbrev pub invariant-loop-done : goal.invariant-loop-done
invariant-loop-done l = record {
  after : l.low ≤ l.done;
  most : l.done ≤ l.high;
  len : length l.self ≡ length l.initial.self;
  size : length l.region ≡ length l.initial.region;
  bytes : (a k : ℕ) (cell : Cell) → IsCellOf a (held_in l.initial.self k) (get_or l.initial.region k 0) cell
      → IsCellOf a (held_in l.self k) (get_or l.region k 0) (if is_between l.low l.done k then written_back a cell else cell);
}

abbrev pub decreases-loop-done : goal.decreases-loop-done
decreases-loop-done l = l.high - l.done
