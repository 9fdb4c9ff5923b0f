use Rattle.std.proofs.Common.{inr}
use Rattle.vk_touches.specs.Conflicts.{Misses, MissesOther, MissesWrite}
use Rattle.vk_touches.proofs.Searches.{found_either}
use Rattle.vk_touches.proofs.accesses.ResourceAccess.misses_some.Goals as goal

pub returns-else-misses_some_write : goal.returns-else-misses_some_write
returns-else-misses_some_write c =
    let x = c.args.self.now in
    let cached = c.args.is_cached in
    found_either (MissesWrite x) (MissesOther cached x) (Misses cached x) (λ k t m. inr m) (λ k t m n. (m, n.0, n.1)) c.args.touches.now c.args.low c.args.high
    c.misses_some_write.result c.if-misses_some_write.false c.misses_some_write.ensures c.misses_some_other.result c.misses_some_other.ensures
