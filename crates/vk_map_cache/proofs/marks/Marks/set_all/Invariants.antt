use Rattle.std.proofs.Common.{◌≡◌, ◌≤◌, ◌-◌, ℕ, length, if◌then◌else◌}
use Rattle.vk_map_cache.specs.Holdings.{is_between}
use Rattle.vk_map_cache.specs.Inner.Marks.{mark_at}
use Rattle.vk_map_cache.proofs.marks.Marks.set_all.Given as goal

abbrev pub invariant-loop-done : goal.invariant-loop-done
invariant-loop-done l = record {
  after : l.low ≤ l.done;
  most : l.done ≤ l.high;
  len : length l.self ≡ length l.initial.self;
  marks : (k : ℕ) → mark_at l.self k ≡ (if is_between l.low l.done k then l.mark else mark_at l.initial.self k);
}

abbrev pub decreases-loop-done : goal.decreases-loop-done
decreases-loop-done l = l.high - l.done
