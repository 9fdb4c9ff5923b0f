use Rattle.std.proofs.Common.{◌-◌, ◌<◌, ◌≤◌}
use Rattle.vk_image_bytes.specs.Numbers.{subresource_at}
use Rattle.vk_touches.proofs.bytes.before_subresource.Given as goal

abbrev pub invariant-loop-end : goal.invariant-loop-end
invariant-loop-end l = record {
  low : l.low ≤ l.last;
  order : l.last < l.end;
  high : l.end ≤ l.fn.high;
  earlier : subresource_at l.bytes l.last < l.subresource;
}

abbrev pub decreases-loop-end : goal.decreases-loop-end
decreases-loop-end l = l.end - l.last
