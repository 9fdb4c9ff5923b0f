use Rattle.std.proofs.Common.{◌≡◌, ◌<◌, ◌≤◌, ℕ, get_or}
use Rattle.vk_model.specs.Run.Caches.{value_through}
use Rattle.vk_map_cache.specs.Inner.Marks.{holding_of, mark_at}
use Rattle.vk_map_cache.proofs.mark.read_through.Given as goal

abbrev pub invariant-loop-i : goal.invariant-loop-i
invariant-loop-i l = record {
  before : (k : ℕ) → k < l.i → get_or l.out k 0 ≡ value_through (holding_of (mark_at l.marks k) (get_or l.values k 0)) (get_or l.initial.out k 0);
  rest : (k : ℕ) → l.i ≤ k → get_or l.out k 0 ≡ get_or l.initial.out k 0;
}
