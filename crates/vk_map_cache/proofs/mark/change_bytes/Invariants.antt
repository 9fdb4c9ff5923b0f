use Rattle.std.proofs.Common.{◌≡◌, ◌<◌, ◌≤◌, ℕ, get_or}
use Rattle.vk_model.specs.Run.Caches.{Cell}
use Rattle.vk_map_cache.specs.Inner.Marks.{mark_at, IsMarked, changed}
use Rattle.vk_map_cache.proofs.mark.change_bytes.Given as goal

abbrev pub invariant-loop-i : goal.invariant-loop-i
invariant-loop-i l = record {
  before : (k : ℕ) (cell : Cell) → k < l.i
      → IsMarked l.initial.marks l.initial.values l.initial.region k cell
      → IsMarked l.marks l.values l.region k (changed l.change cell);
  marks : (k : ℕ) → l.i ≤ k → mark_at l.marks k ≡ mark_at l.initial.marks k;
  values : (k : ℕ) → l.i ≤ k → get_or l.values k 0 ≡ get_or l.initial.values k 0;
  region : (k : ℕ) → l.i ≤ k → get_or l.region k 0 ≡ get_or l.initial.region k 0;
}
