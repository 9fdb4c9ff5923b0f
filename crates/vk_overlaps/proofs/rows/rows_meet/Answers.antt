use Rattle.std.proofs.Common.{sym, ◌∙◌, arith}
use Rattle.vk_model.specs.Trace.Image.{texel}
use Rattle.vk_model.specs.World.Areas.{row_count}
use Rattle.vk_overlaps.specs.Inner.Rows.{row_meets_some}
use Rattle.vk_overlaps.proofs.ListPairs.{none_below, one_below}
use Rattle.vk_overlaps.proofs.rows.rows_meet.Goals as goal

pub returns-then-row_meets : goal.returns-then-row_meets
returns-then-row_meets c =
    let t = texel c.args.format in
    let end = c.row_count-row-end.ensures in
    let lt = c.loop-row-test.true in
    sym (one_below (λ r. row_meets_some t c.args.one.now r c.args.other.now) (row_count c.args.one.now) c.loop-row.row (omega (arith, lt, end)) (sym c.row_meets.ensures ∙ c.if-row_meets.true))

pub returns : goal.returns
returns c =
    let t = texel c.args.format in
    let end = c.row_count-row-end.ensures in
    let done = c.loop-row-test.false in
    sym (none_below (λ r. row_meets_some t c.args.one.now r c.args.other.now) (row_count c.args.one.now) (λ k lt. c.loop-row.invariant k (omega (arith, lt, end, done))))
