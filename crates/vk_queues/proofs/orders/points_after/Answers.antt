use Rattle.std.proofs.Common.{ap}
use Rattle.vk_queues.specs.PointViews.{past_after}
use Rattle.vk_queues.proofs.orders.points_after.Goals as goal

pub returns : goal.returns
returns c = λ f w. c.in_ok-push_points.ensures f.past f w (ap (past_after f.past) c.new-points.ensures.items)
