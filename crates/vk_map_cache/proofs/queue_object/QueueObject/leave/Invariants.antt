use Rattle.std.proofs.Common.{◌≡◌, ◌≤◌, ◌-◌, ℕ, length, if◌then◌else◌}
use Rattle.vk_model.specs.Run.Caches.{Cell}
use Rattle.vk_map_cache.specs.Holdings.{IsCellOf, held_in, is_between}
use Rattle.vk_map_cache.specs.Inner.Marks.{turned}
use Rattle.vk_map_cache.proofs.queue_object.QueueObject.leave.Given as goal

abbrev pub invariant-loop-done : goal.invariant-loop-done
invariant-loop-done l = record {
  after : l.low ≤ l.done;
  most : l.done ≤ l.high;
  len : length l.self ≡ length l.initial.self;
  bytes : (a k value : ℕ) (cell : Cell) → IsCellOf a (held_in l.initial.self k) value cell
      → IsCellOf a (held_in l.self k) value (if is_between l.low l.done k then turned l.turn a cell else cell);
}

abbrev pub decreases-loop-done : goal.decreases-loop-done
decreases-loop-done l = l.high - l.done
