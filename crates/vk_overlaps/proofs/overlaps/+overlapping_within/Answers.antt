use Rattle.std.proofs.Common.{◌≡◌, sym, ◌∙◌}
use Rattle.std.specs.Prelude.{is_some, IfSome}
use Rattle.std.proofs.lemmas.Result.{IfOk-weaker}
use Rattle.vk_overlaps.specs.declared.planes.Side.TheVariants.{Before, After}
use Rattle.vk_overlaps.specs.Extents.{parts_overlap, IsOverlapping}
use Rattle.vk_overlaps.specs.Inner.Planes.{is_on}
use Rattle.vk_overlaps.proofs.Sides.{found_before, found_after}
use Rattle.vk_overlaps.proofs.Found.{found_kept}
use Rattle.vk_overlaps.proofs.overlaps.+overlapping_within.Goals as goal

pub returns-then-is_some-clause-found : goal.returns-then-is_some-clause-found
returns-then-is_some-clause-found t c =
    let is = sym c.is_some.ensures ∙ c.if-is_some.true in
    is ∙ found_before c.in-Some.plane c.args.written.now c.args.read.now c.as_slice.result.now c.as_slice-2.result.now (is_some c.in_ok-before.before)
    (c.as_slice.ensures.value ∙ c.in_ok-written_before.ensures) (c.as_slice-2.ensures.value ∙ c.in_ok-read_before.ensures) c.in_ok-before.ensures.found is

pub returns-then-is_some-clause-part : goal.returns-then-is_some-clause-part
returns-then-is_some-clause-part t c =
    found_kept (is_on c.in-Some.plane Before) c.args.written.now c.args.read.now c.as_slice.result.now c.as_slice-2.result.now
    (c.as_slice.ensures.value ∙ c.in_ok-written_before.ensures) (c.as_slice-2.ensures.value ∙ c.in_ok-read_before.ensures) c.in_ok-before.before c.in_ok-before.ensures.part

pub returns-clause-found : goal.returns-clause-found
returns-clause-found t c =
    IfOk-weaker c.overlapping_within-2.result (λ found. is_some found ≡ parts_overlap c.as_slice-3.result.now c.as_slice-4.result.now) (λ found. is_some found ≡ parts_overlap c.args.written.now c.args.read.now)
    (λ found. found_after c.in-Some.plane c.args.written.now c.args.read.now c.as_slice.result.now c.as_slice-2.result.now (is_some c.in_ok-before.before)
    (c.as_slice.ensures.value ∙ c.in_ok-written_before.ensures) (c.as_slice-2.ensures.value ∙ c.in_ok-read_before.ensures) c.in_ok-before.ensures.found (sym c.is_some.ensures ∙ c.if-is_some.false)
    c.as_slice-3.result.now c.as_slice-4.result.now (c.as_slice-3.ensures.value ∙ c.in_ok-written_after.ensures) (c.as_slice-4.ensures.value ∙ c.in_ok-read_after.ensures) (is_some found))
    c.overlapping_within-2.ensures.found

pub returns-clause-part : goal.returns-clause-part
returns-clause-part t c =
    IfOk-weaker c.overlapping_within-2.result (λ found. IfSome found (IsOverlapping c.as_slice-3.result.now c.as_slice-4.result.now)) (λ found. IfSome found (IsOverlapping c.args.written.now c.args.read.now))
    (found_kept (is_on c.in-Some.plane After) c.args.written.now c.args.read.now c.as_slice-3.result.now c.as_slice-4.result.now
    (c.as_slice-3.ensures.value ∙ c.in_ok-written_after.ensures) (c.as_slice-4.ensures.value ∙ c.in_ok-read_after.ensures))
    c.overlapping_within-2.ensures.part
