use Rattle.std.proofs.Common.{false, ◌≤◌, arith, ◌∷◌, refl, Ok}
use Rattle.std.specs.Fn.{FnReturnsAt}
use Rattle.std.proofs.iter.Next.{says_at}
use Rattle.vk_ranges.proofs.Walking.{last_reaches}
use Rattle.vk_ranges.proofs.Mapping.{mapping_start, mapping_next}
use Rattle.vk_ranges.proofs.planning.mapped.Goals as goal

pub loop-next_end-init : goal.loop-next_end-init
loop-next_end-init g c = λ low len t lt le.
    rw (c.new-changes.ensures.items, c.into_iter-next_end-iterator.ensures.into_iter_gives)
    (mapping_start (λ before after. FnReturnsAt g.F.Fn c.args.f before (Ok after)) low c.args.high len (c.args.first_end, c.args.first.now) c.args.rest c.args.answer t lt c.requires.given)

pub returns-then-first_end-high : goal.returns-then-first_end-high
returns-then-first_end-high g c = λ low len t lt le.
    let gives = λ (before after : g.row.T.Denot). FnReturnsAt g.F.Fn c.args.f before (Ok after) in
    let mapping = mapping_start gives low c.args.high len (c.args.first_end, c.args.first.now) c.args.rest c.args.answer t lt c.requires.given in
    let reaches : c.args.high ≤ c.args.first_end = omega arith in
    rw (c.tail_within.ensures.none) (record {
      last = c.args.answer;
      walked = record {
        run = (c.args.first_end, c.args.first.now);
        rest = c.args.rest;
        walk = mapping.walk;
        reaches = reaches;
        closed = record { is_end = false; ends = c.if-first_end-high.true; edge_is = c.tail_within.ensures.edge };
      };
      new = mapping.news c.args.high mapping.walk.below reaches;
    })

pub returns-then-end-high : goal.returns-then-end-high
returns-then-end-high g c = λ low len t lt le.
    let mapping = c.loop-next_end.invariant low len t lt le in
    record {
      last = c.loop-next_end.value;
      walked = record {
        run = (c.loop-next_end.end, c.loop-next_end.here.now);
        rest = c.loop-next_end.next_end-iterator;
        walk = mapping.walk;
        reaches = c.if-end-high.true;
        closed = c.last_edge-at_high.ensures c.loop-next_end.next_end-iterator c.if-end-high.true (rw c.in-Some.ensures.steps refl);
      };
      new = mapping.news c.args.high mapping.walk.below c.if-end-high.true;
    }

pub loop-next_end-preserved : goal.loop-next_end-preserved
loop-next_end-preserved g c = λ low len t lt le.
    let gives = λ (before after : g.row.T.Denot). FnReturnsAt g.F.Fn c.args.f before (Ok after) in
    let next = c.in-Some.next.now in
    mapping_next gives low c.args.high len ((c.args.first_end, c.args.first.now) ∷ c.args.rest) c.loop-next_end.changes.items (c.loop-next_end.end, c.loop-next_end.here.now) (c.in-Some.next_end, next)
    c.loop-next_end.next_end-iterator c.next.new.self c.loop-next_end.value c.in_ok-next_value.next_value c.args.answer t (c.loop-next_end.invariant low len t lt le) c.in-Some.ensures.steps c.if-end-high.false
    c.kept_before.result c.push.new.self.items c.kept_before.ensures.end c.kept_before.ensures.kept c.in_ok-push.ensures.items (says_at g.F.Fn c.in_ok-next_value.ensures refl)

pub returns : goal.returns
returns g c = λ low len t lt le.
    let mapping = c.loop-next_end.invariant low len t lt le in
    let none = c.in-None.ensures.steps.0 in
    let reaches = last_reaches low c.args.high len ((c.args.first_end, c.args.first.now) ∷ c.args.rest) c.loop-next_end.changes.items (c.loop-next_end.end, c.loop-next_end.here.now) c.loop-next_end.next_end-iterator t mapping.walk none le in
    record {
      last = c.loop-next_end.value;
      walked = record {
        run = (c.loop-next_end.end, c.loop-next_end.here.now);
        rest = c.loop-next_end.next_end-iterator;
        walk = mapping.walk;
        reaches = reaches;
        closed = c.last_edge-at_high-2.ensures c.loop-next_end.next_end-iterator reaches (rw none refl);
      };
      new = mapping.news c.args.high mapping.walk.below reaches;
    }
