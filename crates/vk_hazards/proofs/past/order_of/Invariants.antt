use Rattle.std.proofs.Common.{◌≡◌, ◌∷◌, take, length}
use Rattle.vk_model.specs.Trace.Point.{Past, Point}
use Rattle.vk_model.specs.Sync.Node.{nodes}
use Rattle.vk_queues.specs.PointViews.{past_of}
use Rattle.vk_hazards.proofs.past.order_of.Given as goal

abbrev pub invariant-loop-point : goal.invariant-loop-point
invariant-loop-point l = record {
  order : l.order ≡ nodes (past_of (take l.point-index l.points));
  before : (past : Past) (p : Point) → past_of (take l.point-index l.points) ≡ p ∷ past → l.before ≡ length (nodes past);
}
