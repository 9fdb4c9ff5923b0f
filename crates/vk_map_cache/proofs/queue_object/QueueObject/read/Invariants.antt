use Rattle.std.proofs.Common.{◌≡◌, ◌<◌, ◌≤◌, ◌+◌, ◌-◌, ℕ, length, get_or}
use Rattle.vk_model.specs.Run.Caches.{value_through}
use Rattle.vk_map_cache.specs.Holdings.{held_in}
use Rattle.vk_map_cache.proofs.queue_object.QueueObject.read.Given as goal

abbrev pub invariant-loop-done : goal.invariant-loop-done
invariant-loop-done l = record {
  most : l.done ≤ length l.initial.out;
  before : (k : ℕ) → k < l.done → get_or l.out k 0 ≡ value_through (held_in l.self (l.at + k)) (get_or l.initial.out k 0);
  rest : (k : ℕ) → l.done ≤ k → get_or l.out k 0 ≡ get_or l.initial.out k 0;
}

abbrev pub decreases-loop-done : goal.decreases-loop-done
decreases-loop-done l = length l.initial.out - l.done
