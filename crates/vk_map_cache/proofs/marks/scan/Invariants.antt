use Rattle.std.proofs.Common.{◌≡◌, ◌<◌, ◌≤◌, ◌-◌, ℕ}
use Rattle.vk_map_cache.specs.Inner.Marks.{mark_at}
use Rattle.vk_map_cache.proofs.marks.scan.Given as goal

abbrev pub invariant-loop-end : goal.invariant-loop-end
invariant-loop-end l = record {
  some : l.low < l.end;
  most : l.end ≤ l.most;
  alike : (k : ℕ) → l.low ≤ k → k < l.end → mark_at l.marks k ≡ l.mark;
}

abbrev pub decreases-loop-end : goal.decreases-loop-end
decreases-loop-end l = l.most - l.end
