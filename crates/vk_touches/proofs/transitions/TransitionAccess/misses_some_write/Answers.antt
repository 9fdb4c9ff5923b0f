use Rattle.std.proofs.Common.{arith, subst, ℕ, Bool, Option}
use Rattle.vk_touches.specs.declared.touches.Spot.{Spot}
use Rattle.vk_touches.specs.declared.transitions.TransitionAccess.{TransitionAccess}
use Rattle.vk_touches.specs.Conflicts.{IsRefused, MissesWriteAt, SaysSeenAt, SomeBetween}
use Rattle.vk_touches.proofs.ByteUnits.{fewer_numbers}
use Rattle.vk_touches.proofs.Searches.{walk_within, walk_next, walk_found, walk_end}
use Rattle.vk_touches.proofs.TouchMaps.{writes_len, writes_start}
use Rattle.vk_touches.proofs.transitions.TransitionAccess.misses_some_write.Goals as goal

abbrev IsMissedAt : TransitionAccess → Bool → ℕ → ℕ → Option Spot → Type 0
IsMissedAt x missed low high last = SomeBetween (λ k r. IsRefused (SaysSeenAt x k) r last) missed low high

pub overlapping-run-items-requires-clause-within : goal.overlapping-run-items-requires-clause-within
overlapping-run-items-requires-clause-within c = omega (arith, writes_len c.touches.invariant c.touches.view_is)

pub loop-run-init : goal.loop-run-init
loop-run-init c = writes_start c.touches.invariant c.touches.view_is (MissesWriteAt c.args.self.now) (λ k r w t m. m) (rw c.into_iter-run-iterator.ensures.into_iter_gives c.overlapping-run-items.ensures)

pub misses_write-requires : goal.misses_write-requires
misses_write-requires c = fewer_numbers c.args.self.now.bytes _ c.args.high (walk_within c.loop-run.invariant c.in-Some.ensures.steps).1 c.requires.numbers

pub loop-run-preserved : goal.loop-run-preserved
loop-run-preserved c = walk_next c.loop-run.invariant c.in-Some.ensures.steps _ (subst (IsMissedAt c.args.self.now c.misses_write.result c.in-Some.run'.start c.in-Some.run'.end) c.write.ensures c.misses_write.ensures) c.if-misses_write.false

pub returns-then-misses_write : goal.returns-then-misses_write
returns-then-misses_write c = walk_found c.loop-run.invariant c.in-Some.ensures.steps _ (subst (IsMissedAt c.args.self.now c.misses_write.result c.in-Some.run'.start c.in-Some.run'.end) c.write.ensures c.misses_write.ensures) c.if-misses_write.true

pub returns : goal.returns
returns c = walk_end c.loop-run.invariant c.in-None.ensures.steps.0
