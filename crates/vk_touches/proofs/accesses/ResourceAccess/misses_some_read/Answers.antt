use Rattle.std.proofs.Common.{Bool, subst, sym}
use Rattle.vk_touches.specs.Conflicts.{FoundAt, MissesRead}
use Rattle.vk_touches.proofs.accesses.ResourceAccess.misses_some_read.Goals as goal

pub returns-then-is_cached : goal.returns-then-is_cached
returns-then-is_cached c = subst (λ (b : Bool). FoundAt (MissesRead b c.args.self.now) c.has_stale.result c.args.touches.now c.args.low c.args.high) (sym c.if-is_cached.true) c.has_stale.ensures

pub returns-else-is_cached : goal.returns-else-is_cached
returns-else-is_cached c = subst (λ (b : Bool). FoundAt (MissesRead b c.args.self.now) c.misses_some_write.result c.args.touches.now c.args.low c.args.high) (sym c.if-is_cached.false) c.misses_some_write.ensures
