use Rattle.std.proofs.Common.{arith, refl, rules}
use Rattle.vk_touches.specs.Conflicts.{IsEarly}
use Rattle.vk_touches.specs.TouchMaps.{with_reads}
use Rattle.vk_touches.proofs.Searches.{found_by, walk_within, walk_next, walk_found, walk_end}
use Rattle.vk_touches.proofs.TouchMaps.{others_len, reads_len, early_start, early_between}
use Rattle.vk_touches.proofs.map.TouchMap.has_early.Goals as goal

pub overlapping-run-items-requires-clause-within : goal.overlapping-run-items-requires-clause-within
overlapping-run-items-requires-clause-within c = omega (arith, others_len c.self.invariant c.self.view_is)

pub loop-run-init : goal.loop-run-init
loop-run-init c = early_start c.self.invariant c.self.view_is c.args.new_node.now (rw c.into_iter-run-iterator.ensures.into_iter_gives c.overlapping-run-items.ensures)

pub find-early-requires-clause-order : goal.find-early-requires-clause-order
find-early-requires-clause-order c = (walk_within c.loop-run.invariant c.in-Some.ensures.steps).0

pub find-early-requires-clause-within : goal.find-early-requires-clause-within
find-early-requires-clause-within c =
    let high = (walk_within c.loop-run.invariant c.in-Some.ensures.steps).1 in
    omega (arith, high, reads_len c.self.invariant c.self.view_is)

pub loop-run-preserved : goal.loop-run-preserved
loop-run-preserved c =
    walk_next c.loop-run.invariant c.in-Some.ensures.steps c.is_some.result
    (early_between c.self.inside.reads c.args.new_node.now c.in-Some.run'.value.now c.in-Some.run'.start c.in-Some.run'.end c.is_some.result
    (found_by (λ r h. IsEarly c.args.new_node.now r (with_reads c.in-Some.run'.value.now h)) c.self.inside.reads c.in-Some.run'.start c.in-Some.run'.end _ _ refl refl c.find-early.result c.find-early.ensures.within c.find-early.ensures.passes c.find-early.ensures.none c.is_some.result c.is_some.ensures
    (λ a h. search rules) (λ a h. search rules)))
    c.if-is_some.false

pub returns-then-is_some : goal.returns-then-is_some
returns-then-is_some c =
    walk_found c.loop-run.invariant c.in-Some.ensures.steps c.is_some.result
    (early_between c.self.inside.reads c.args.new_node.now c.in-Some.run'.value.now c.in-Some.run'.start c.in-Some.run'.end c.is_some.result
    (found_by (λ r h. IsEarly c.args.new_node.now r (with_reads c.in-Some.run'.value.now h)) c.self.inside.reads c.in-Some.run'.start c.in-Some.run'.end _ _ refl refl c.find-early.result c.find-early.ensures.within c.find-early.ensures.passes c.find-early.ensures.none c.is_some.result c.is_some.ensures
    (λ a h. search rules) (λ a h. search rules)))
    c.if-is_some.true

pub returns : goal.returns
returns c = walk_end c.loop-run.invariant c.in-None.ensures.steps.0
