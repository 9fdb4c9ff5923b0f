use Rattle.std.proofs.Common.{◌≡◌, ◌&&◌, ℕ, nat_le, nat_lt, if◌then◌else◌, length, slice_index}
use Rattle.vk_layouts.proofs.level.Level.set.Given as goal

abbrev pub invariant-loop-layer : goal.invariant-loop-layer
invariant-loop-layer l =
    record {
      len : length l.self-inside.layouts.items ≡ length l.fn.self;
      layouts : (k : ℕ) → slice_index l.self-inside.layouts.items k ≡ (if nat_le l.low k && nat_lt k l.layer then l.layout else slice_index l.fn.self k);
    }
