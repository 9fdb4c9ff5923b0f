use Rattle.std.proofs.Common.{arith}
use Rattle.vk_touches.specs.Conflicts.{MissesOther}
use Rattle.vk_touches.proofs.ByteUnits.{fewer_numbers}
use Rattle.vk_touches.proofs.Searches.{walk_within, walk_next, walk_found, walk_end}
use Rattle.vk_touches.proofs.TouchMaps.{others_len, others_start, other_alike, seen_of_none}
use Rattle.vk_touches.proofs.accesses.ResourceAccess.misses_some_other.Goals as goal

pub overlapping-run-items-requires-clause-within : goal.overlapping-run-items-requires-clause-within
overlapping-run-items-requires-clause-within c = omega (arith, others_len c.touches.invariant c.touches.view_is)

pub loop-run-init : goal.loop-run-init
loop-run-init c = record {
  searched = others_start c.touches.invariant c.touches.view_is (MissesOther c.args.is_cached c.args.self.now) (other_alike c.args.is_cached c.args.self.now) (rw c.into_iter-run-iterator.ensures.into_iter_gives c.overlapping-run-items.ensures);
  visible_prefix = seen_of_none c.args.self.now c.none-visible_prefix.result c.none-visible_prefix.ensures;
}

pub misses_other-requires-clause-numbers : goal.misses_other-requires-clause-numbers
misses_other-requires-clause-numbers c = fewer_numbers c.args.self.now.bytes _ c.args.high (walk_within c.loop-run.invariant.searched c.in-Some.ensures.steps).1 c.requires.numbers

pub loop-run-preserved : goal.loop-run-preserved
loop-run-preserved c = record {
  searched = walk_next c.loop-run.invariant.searched c.in-Some.ensures.steps _ c.misses_other.ensures c.if-misses_other.false;
  visible_prefix = c.visible_prefix_for-visible_prefix.ensures;
}

pub returns-then-misses_other : goal.returns-then-misses_other
returns-then-misses_other c = walk_found c.loop-run.invariant.searched c.in-Some.ensures.steps _ c.misses_other.ensures c.if-misses_other.true

pub returns : goal.returns
returns c = walk_end c.loop-run.invariant.searched c.in-None.ensures.steps.0
