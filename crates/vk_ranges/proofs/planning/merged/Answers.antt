use Rattle.std.proofs.Common.{false, arith, [], ◌∷◌, refl, ap, ◌∙◌, None, append-nil}
use Rattle.vk_ranges.specs.Inner.Plans.{runs_of}
use Rattle.vk_ranges.proofs.Walking.{walk_start, walk_next, last_reaches}
use Rattle.vk_ranges.proofs.PlanLemmas.{runs_append}
use Rattle.vk_ranges.proofs.planning.merged.Goals as goal

pub loop-next_end-init : goal.loop-next_end-init
loop-next_end-init g c =
    record {
      walks = λ low len t lt le.
          rw (c.new-changes.ensures.items, c.into_iter-next_end-iterator.ensures.into_iter_gives) (walk_start low c.args.high len (c.args.first_end, c.args.first.now) c.args.rest t lt);
      none = ap (λ xs. runs_of xs) c.new-changes.ensures.items;
    }

pub returns-then-first_end-high-clause-walked : goal.returns-then-first_end-high-clause-walked
returns-then-first_end-high-clause-walked g c = λ low len t lt le.
    rw (c.tail_within.ensures.none) (record {
      run = (c.args.first_end, c.args.first.now);
      rest = c.args.rest;
      walk = walk_start low c.args.high len (c.args.first_end, c.args.first.now) c.args.rest t lt;
      reaches = omega arith;
      closed = record { is_end = false; ends = c.if-first_end-high.true; edge_is = c.tail_within.ensures.edge };
    })

pub returns-then-end-high-clause-walked : goal.returns-then-end-high-clause-walked
returns-then-end-high-clause-walked g c = λ low len t lt le.
    let walk = c.loop-next_end.invariant.walks low len t lt le in
    record {
      run = (c.loop-next_end.end, c.loop-next_end.here.now);
      rest = c.loop-next_end.next_end-iterator;
      walk = walk;
      reaches = c.if-end-high.true;
      closed = c.last_edge-at_high.ensures c.loop-next_end.next_end-iterator c.if-end-high.true (rw c.in-Some.ensures.steps refl);
    }

pub loop-next_end-preserved : goal.loop-next_end-preserved
loop-next_end-preserved g c =
    record {
      walks = λ low len t lt le.
          walk_next low c.args.high len ((c.args.first_end, c.args.first.now) ∷ c.args.rest) c.loop-next_end.changes.items (c.loop-next_end.end, c.loop-next_end.here.now) c.loop-next_end.next_end-iterator t
          (c.loop-next_end.invariant.walks low len t lt le) (c.in-Some.next_end, c.in-Some.next.now) c.next.new.self c.in-Some.ensures.steps c.if-end-high.false
          (record { end = c.loop-next_end.end; value = None }) c.push.new.self.items refl c.in_ok-push.ensures.items;
      none =
          ap (λ xs. runs_of xs) c.in_ok-push.ensures.items ∙ runs_append c.loop-next_end.changes.items (record { end = c.loop-next_end.end; value = None } ∷ [])
          ∙ append-nil (runs_of c.loop-next_end.changes.items) ∙ c.loop-next_end.invariant.none;
    }

pub returns-clause-walked : goal.returns-clause-walked
returns-clause-walked g c = λ low len t lt le.
    let walk = c.loop-next_end.invariant.walks low len t lt le in
    let none = c.in-None.ensures.steps.0 in
    let reaches = last_reaches low c.args.high len ((c.args.first_end, c.args.first.now) ∷ c.args.rest) c.loop-next_end.changes.items (c.loop-next_end.end, c.loop-next_end.here.now) c.loop-next_end.next_end-iterator t walk none le in
    record {
      run = (c.loop-next_end.end, c.loop-next_end.here.now);
      rest = c.loop-next_end.next_end-iterator;
      walk = walk;
      reaches = reaches;
      closed = c.last_edge-at_high-2.ensures c.loop-next_end.next_end-iterator reaches (rw none refl);
    }
