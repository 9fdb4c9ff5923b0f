use Rattle.std.proofs.Common.{Bool, sym, subst}
use Rattle.vk_touches.specs.Conflicts.{MissesHostWrite, SomeBetween}
use Rattle.vk_touches.specs.TouchMaps.{without_reads}
use Rattle.vk_touches.proofs.accesses.ResourceAccess.misses_host_write.Goals as goal

pub returns-then-is_cached : goal.returns-then-is_cached
returns-then-is_cached c = subst (λ (t : Bool). SomeBetween (λ k r. MissesHostWrite t c.args.self.now k r (without_reads c.args.last.now)) c.misses_flush.result c.args.low c.args.high) (sym c.if-is_cached.true) c.misses_flush.ensures

pub returns-else-is_cached : goal.returns-else-is_cached
returns-else-is_cached c = subst (λ (t : Bool). SomeBetween (λ k r. MissesHostWrite t c.args.self.now k r (without_reads c.args.last.now)) c.misses_write.result c.args.low c.args.high) (sym c.if-is_cached.false) c.misses_write.ensures
