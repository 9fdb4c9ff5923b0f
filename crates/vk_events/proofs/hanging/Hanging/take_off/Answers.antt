use Rattle.std.proofs.Common.{◌≤◌, ◌-◌, List, slice_set, arith, subst, sym}
use Rattle.std.specs.Prelude.{Contains}
use Rattle.std.proofs.lemmas.List.{get_or_default}
use Rattle.vk_events.specs.Inner.Hooks.{Hung}
use Rattle.vk_events.specs.Inner.Hanging.{IsHanging, pairs_on}
use Rattle.vk_events.proofs.HangingLemmas.{known, some, has_room, fewer, untouched, taken_off, taken_off_last}
use Rattle.vk_events.proofs.hanging.Hanging.take_off.Goals as goal

pub returns-in_default-clause-none : goal.returns-in_default-clause-none
returns-in_default-clause-none c e x there =
    let f = c.in_default.ensures.none in
    f.3 x (subst (λ (hs : List Hung). Contains (pairs_on hs c.args.queue) x) (untouched c.args.self.now.hooks c.take_from.new.hooks c.args.queue f.0 f.1 f.2) there)

pub returns-in_default-clause-hanging : goal.returns-in_default-clause-hanging
returns-in_default-clause-hanging c counts low high taken same is =
    let f = c.in_default.ensures.none in
    let now = c.args.self.now in
    subst (λ (hs : List Hung). IsHanging hs now.lacking.items now.met counts low high taken) (sym (untouched now.hooks c.take_from.new.hooks c.args.queue f.0 f.1 f.2)) is

pub index_mut-lacking-requires : goal.index_mut-lacking-requires
index_mut-lacking-requires c =
    let r = c.requires.hanging in
    let f = c.in-Some.ensures.some in
    let is = r.5 in
    let lt = known c.args.self.now.hooks c.args.self.now.lacking.items c.args.self.now.met r.0 r.1 r.2 r.3 is c.args.queue c.requires.queue f.0 c.in-Some.number f.1 (omega (arith, f.2, r.4)) f.3 in
    omega (arith, lt, is.size)

pub overflow_sub-lacking : goal.overflow_sub-lacking
overflow_sub-lacking c =
    let r = c.requires.hanging in
    let f = c.in-Some.ensures.some in
    let is = r.5 in
    let within : f.0 ≤ r.2 c.args.queue = omega (arith, f.2, r.4) in
    let lt = known c.args.self.now.hooks c.args.self.now.lacking.items c.args.self.now.met r.0 r.1 r.2 r.3 is c.args.queue c.requires.queue f.0 c.in-Some.number f.1 within f.3 in
    let more = some c.args.self.now.hooks c.args.self.now.lacking.items c.args.self.now.met r.0 r.1 r.2 r.3 is c.args.queue c.requires.queue f.0 c.in-Some.number f.1 within f.3 in
    let read = get_or_default c.args.self.now.lacking.items c.in-Some.number c.index_mut-lacking.result.now 0 (omega (arith, lt, is.size)) in
    omega (arith, more, read, c.index_mut-lacking.ensures.value)

pub push-requires : goal.push-requires
push-requires c =
    let r = c.requires.hanging in
    let f = c.in-Some.ensures.some in
    has_room c.args.self.now.hooks c.args.self.now.lacking.items c.args.self.now.met r.0 r.1 r.2 r.3 r.5 c.args.queue c.requires.queue f.0 c.in-Some.number f.1 (omega (arith, f.2, r.4)) f.3

pub returns-then-lacking-eq0-clause-hanging : goal.returns-then-lacking-eq0-clause-hanging
returns-then-lacking-eq0-clause-hanging c counts low high taken same is =
    let f = c.in-Some.ensures.some in
    let now = c.args.self.now in
    let within : f.0 ≤ high c.args.queue = omega (arith, f.2, same) in
    let lt = known now.hooks now.lacking.items now.met counts low high taken is c.args.queue c.requires.queue f.0 c.in-Some.number f.1 within f.3 in
    let more = some now.hooks now.lacking.items now.met counts low high taken is c.args.queue c.requires.queue f.0 c.in-Some.number f.1 within f.3 in
    let read = get_or_default now.lacking.items c.in-Some.number c.index_mut-lacking.result.now 0 (omega (arith, lt, is.size)) in
    let v = c.index_mut-lacking.result.now - 1 in
    let last = c.if-lacking-eq0.true in
    subst (λ (hs : List Hung). IsHanging hs (slice_set now.lacking.items c.in-Some.number v) c.push.new.self counts low high taken) (sym f.4)
    (taken_off_last now.hooks now.lacking.items now.met counts low high taken is c.args.queue c.requires.queue f.0 c.in-Some.number f.1 within f.3
    v (omega (arith, more, read, c.index_mut-lacking.ensures.value)) last c.push.new.self c.push.ensures.pairs c.push.ensures.room)

pub returns-then-lacking-eq0-clause-fewer : goal.returns-then-lacking-eq0-clause-fewer
returns-then-lacking-eq0-clause-fewer c e =
    let f = c.in-Some.ensures.some in
    fewer c.args.self.now.hooks c.take_from.new.hooks c.requires.hanging.5.queues c.args.queue c.requires.queue f.0 c.in-Some.number f.1 f.3 f.4

pub returns-else-lacking-eq0-clause-hanging : goal.returns-else-lacking-eq0-clause-hanging
returns-else-lacking-eq0-clause-hanging c counts low high taken same is =
    let f = c.in-Some.ensures.some in
    let now = c.args.self.now in
    let within : f.0 ≤ high c.args.queue = omega (arith, f.2, same) in
    let lt = known now.hooks now.lacking.items now.met counts low high taken is c.args.queue c.requires.queue f.0 c.in-Some.number f.1 within f.3 in
    let more = some now.hooks now.lacking.items now.met counts low high taken is c.args.queue c.requires.queue f.0 c.in-Some.number f.1 within f.3 in
    let read = get_or_default now.lacking.items c.in-Some.number c.index_mut-lacking.result.now 0 (omega (arith, lt, is.size)) in
    let v = c.index_mut-lacking.result.now - 1 in
    let left = c.if-lacking-eq0.false in
    subst (λ (hs : List Hung). IsHanging hs (slice_set now.lacking.items c.in-Some.number v) now.met counts low high taken) (sym f.4)
    (taken_off now.hooks now.lacking.items now.met counts low high taken is c.args.queue c.requires.queue f.0 c.in-Some.number f.1 within f.3
    v (omega (arith, more, read, c.index_mut-lacking.ensures.value)) (omega arith))

pub returns-else-lacking-eq0-clause-fewer : goal.returns-else-lacking-eq0-clause-fewer
returns-else-lacking-eq0-clause-fewer c e =
    let f = c.in-Some.ensures.some in
    fewer c.args.self.now.hooks c.take_from.new.hooks c.requires.hanging.5.queues c.args.queue c.requires.queue f.0 c.in-Some.number f.1 f.3 f.4
