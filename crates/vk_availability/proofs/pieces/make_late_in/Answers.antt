use Rattle.std.proofs.Common.{◌≤◌, ◌+◌, ◌-◌, ℕ, Bool, ◌==◌, length, ap, sym, ◌∙◌, subst, arith, Some}
use Rattle.std.specs.Prelude.{if◌then◌else◌, slice_index}
use Rattle.vk_image_transfer.specs.Stretches.{is_among}
use Rattle.vk_lag.specs.Lags.{resource_in, late_at}
use Rattle.vk_availability.proofs.StretchLemmas.{ends_inside, all_walked}
use Rattle.vk_availability.proofs.pieces.make_late_in.Goals as goal

pub write_from-requires-clause-room : goal.write_from-requires-clause-room
write_from-requires-clause-room c =
    let inside = ends_inside c.in-Some.stretch c.loop-stretch.written.left c.next_stretch.new.self.left (length (resource_in c.args.lags.now c.args.written.resource)) c.in-Some.ensures.next (λ k among. c.requires.room k (c.loop-stretch.invariant.among k among)) in
    let same = c.loop-stretch.invariant.room c.args.written.resource in
    subst (λ (n : ℕ). c.in-Some.stretch.at + c.in-Some.stretch.size ≤ length (resource_in c.loop-stretch.lags n)) (sym (c.in-Some.ensures.resource ∙ c.loop-stretch.invariant.resource)) (omega (arith, inside, same))

pub write_from-requires-clause-within : goal.write_from-requires-clause-within
write_from-requires-clause-within c =
    let inside = ends_inside c.in-Some.stretch c.loop-stretch.written.left c.next_stretch.new.self.left (length c.args.region.now - c.args.base) c.in-Some.ensures.next (λ k among. let lt = c.requires.inside k (c.loop-stretch.invariant.among k among) in omega (arith, lt)) in
    let some = c.in-Some.ensures.next.some in
    omega (arith, inside, some)

pub returns-clause-bytes : goal.returns-clause-bytes
returns-clause-bytes c = λ id k.
    c.loop-stretch.invariant.bytes id k
    ∙ ap (λ (b : Bool). if b then Some (record { writer = c.args.writer; value = slice_index c.args.region.now (c.args.base + k) }) else late_at c.args.lags.now id k)
    (all_walked (c.args.written.resource == id) (is_among c.args.written.left k) (is_among c.loop-stretch.written.left k) (c.in_default.ensures.next.1 k))
