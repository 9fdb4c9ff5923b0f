use Rattle.std.proofs.Common.{◌∙◌, ap, arith, Some}
use Rattle.vk_touches.specs.declared.writes.LastWrite.{LastWrite}
use Rattle.vk_touches.proofs.TouchMaps.{writes_len, writes_changed_len, writes_invalidated}
use Rattle.vk_touches.proofs.invalidations.invalidate_next.Goals as goal

pub next_run-end-requires-clause-within : goal.next_run-end-requires-clause-within
next_run-end-requires-clause-within c = omega (arith, writes_len c.touches.invariant c.touches.view_is)

pub assign-requires-clause-within : goal.assign-requires-clause-within
assign-requires-clause-within c =
    let seen = c.sees_until-seen.ensures.within in
    let run = c.next_run-end.ensures.within in
    omega (arith, seen, run, writes_len c.touches.invariant c.touches.view_is)

pub returns-clause-len : goal.returns-clause-len
returns-clause-len c = writes_changed_len c.touches.invariant c.touches.view_is c.assign.new.self c.assign.ensures.len

pub returns-clause-next : goal.returns-clause-next
returns-clause-next c =
    let seen = c.sees_until-seen.ensures.within in
    let run = c.next_run-end.ensures.within in (
      writes_invalidated c.touches.invariant c.touches.view_is c.args.by.now c.assign.new.self c.args.low c.sees_until-seen.result.end c.sees_until-seen.ensures.further c.next_run-end.result.0 c.sees_until-seen.result.is_seen
          (λ k from to. c.next_run-end.ensures.values k from (omega (arith, seen, to))) c.sees_until-seen.ensures.seen (λ k from to. c.in_ok-assign.ensures.inside k from to ∙ ap (λ (w : LastWrite). Some w) c.in_ok-kept.ensures)
          c.in_ok-assign.ensures.before c.in_ok-assign.ensures.after,
      omega (arith, seen, run),
    )
