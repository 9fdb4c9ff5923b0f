use Rattle.std.proofs.Common.{sym}
use Rattle.vk_model.specs.Trace.PointViews.{point_of}
use Rattle.vk_history.specs.PointViews.{past}
use Rattle.vk_rules.proofs.Making.Signaling.{unsignaled_ordered}
use Rattle.vk_rules.proofs.synchronization.signal_order_of.Goals as goal

pub returns-in-None-clause-broken : goal.returns-in-None-clause-broken
returns-in-None-clause-broken c = sym (unsignaled_ordered (past c.args.history.now) c.is_judged.ensures.faultless (point_of c.args.point.now) (sym c.in-None.ensures))
