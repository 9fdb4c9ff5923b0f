use Rattle.vk_touches.specs.Conflicts.{SaysSeenAt}
use Rattle.vk_touches.proofs.Searches.{refused_between}
use Rattle.vk_touches.proofs.transitions.TransitionAccess.misses_write.Goals as goal

pub returns-in-Some : goal.returns-in-Some
returns-in-Some c = refused_between (SaysSeenAt c.args.self.now) c.args.last c.in-Some.write c.in-Some.is c.args.low c.args.high c.is_some_unseen.result c.is_some_unseen.ensures
