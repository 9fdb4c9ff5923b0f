use Rattle.std.proofs.Common.{arith, rules, refl, subst, ◌≡◌, ℕ, Bool, Option, true, false}
use Rattle.vk_touches.specs.declared.accesses.ResourceAccess.{ResourceAccess}
use Rattle.vk_touches.specs.declared.touches.Spot.{Spot}
use Rattle.vk_touches.specs.Conflicts.{IsRefused, MissesWrite, SaysSeen, SomeBetween}
use Rattle.vk_touches.proofs.ByteUnits.{fewer_numbers}
use Rattle.vk_touches.proofs.Searches.{walk_within, walk_next, walk_found, walk_end}
use Rattle.vk_touches.proofs.TouchMaps.{writes_len, writes_start, seen_of_none}
use Rattle.vk_touches.proofs.accesses.ResourceAccess.misses_some_write.Goals as goal

abbrev IsMissed : ResourceAccess → Bool → ℕ → ℕ → Option Spot → Type 0
IsMissed x missed low high last = SomeBetween (λ k r. IsRefused (SaysSeen x k) r last) missed low high

pub overlapping-run-items-requires-clause-within : goal.overlapping-run-items-requires-clause-within
overlapping-run-items-requires-clause-within c = omega (arith, writes_len c.touches.invariant c.touches.view_is)

pub loop-run-init : goal.loop-run-init
loop-run-init c = record { searched = writes_start c.touches.invariant c.touches.view_is (MissesWrite c.args.self.now) (λ k r w t m. m) (rw c.into_iter-run-iterator.ensures.into_iter_gives c.overlapping-run-items.ensures); visible_prefix = seen_of_none c.args.self.now c.none-visible_prefix.result c.none-visible_prefix.ensures }

pub misses_last-requires-clause-numbers : goal.misses_last-requires-clause-numbers
misses_last-requires-clause-numbers c = fewer_numbers c.args.self.now.bytes _ c.args.high (walk_within c.loop-run.invariant.searched c.in-Some.ensures.steps).1 c.requires.numbers

pub loop-run-preserved-else-misses_last : goal.loop-run-preserved-else-misses_last
loop-run-preserved-else-misses_last c = record { searched = walk_next c.loop-run.invariant.searched c.in-Some.ensures.steps _ (subst (IsMissed c.args.self.now c.misses_last.result c.in-Some.run'.start c.in-Some.run'.end) c.write-write.ensures c.misses_last.ensures) c.if-misses_last.false; visible_prefix = c.visible_prefix_for-visible_prefix.ensures }

pub loop-run-preserved : goal.loop-run-preserved
loop-run-preserved c =
    let is : c.is_among.result ≡ true = search rules in
    record { searched = walk_next c.loop-run.invariant.searched c.in-Some.ensures.steps false (λ k from to. subst (λ (last : Option Spot). IsRefused (SaysSeen c.args.self.now k) false last) c.write-write.ensures (c.is_among.ensures is k)) refl; visible_prefix = c.loop-run.invariant.visible_prefix }

pub returns-then-misses_last : goal.returns-then-misses_last
returns-then-misses_last c = walk_found c.loop-run.invariant.searched c.in-Some.ensures.steps _ (subst (IsMissed c.args.self.now c.misses_last.result c.in-Some.run'.start c.in-Some.run'.end) c.write-write.ensures c.misses_last.ensures) c.if-misses_last.true

pub returns : goal.returns
returns c = walk_end c.loop-run.invariant.searched c.in-None.ensures.steps.0
