use Rattle.std.proofs.Common.{inr}
use Rattle.vk_touches.specs.Conflicts.{MissesAt, MissesTransitionAt, MissesWriteAt}
use Rattle.vk_touches.proofs.Searches.{found_either}
use Rattle.vk_touches.proofs.transitions.TransitionAccess.misses_some.Goals as goal

pub returns-else-misses_some_write : goal.returns-else-misses_some_write
returns-else-misses_some_write c =
    let x = c.args.self.now in
    found_either (MissesWriteAt x) (MissesTransitionAt x) (MissesAt x) (λ k t m. inr m) (λ k t m n. (m, n)) c.args.touches.now c.args.low c.args.high
    c.misses_some_write.result c.if-misses_some_write.false c.misses_some_write.ensures c.misses_some_transition.result c.misses_some_transition.ensures
