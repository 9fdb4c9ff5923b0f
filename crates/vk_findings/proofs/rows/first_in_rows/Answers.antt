use Rattle.std.proofs.Common.{◌<◌, ◌*◌, sym, arith}
use Rattle.vk_model.specs.Basics.{within}
use Rattle.vk_model.specs.Trace.Image.{texel}
use Rattle.vk_model.specs.World.Areas.{row_count, row_start}
use Rattle.vk_overlaps.proofs.ListPairs.{none_below, one_below}
use Rattle.vk_findings.specs.Inner.Rows.{row_meets_some}
use Rattle.vk_findings.proofs.rows.first_in_rows.Goals as goal

pub returns-in-Some : goal.returns-in-Some
returns-in-Some c =
    let t = texel c.args.format in
    let u = texel c.args.other_format in
    let g = c.args.one.now in
    let h = c.args.other.now in
    let r = c.loop-row.row in
    let end = c.row_count-row-end.ensures in
    let test = c.loop-row-test.true in
    let lt : r < row_count g = omega (arith, test, end) in
    record {
      meet = sym (one_below (λ r. row_meets_some t g r u h) (row_count g) r lt (sym c.in-Some.ensures.meet));
      in_one = one_below (λ r. within (row_start t g r) (g.width * t) c.in-Some.at) (row_count g) r lt c.in-Some.ensures.in_one;
      in_other = c.in-Some.ensures.in_other;
    }

pub returns : goal.returns
returns c =
    let t = texel c.args.format in
    let u = texel c.args.other_format in
    let g = c.args.one.now in
    let h = c.args.other.now in
    let end = c.row_count-row-end.ensures in
    let done = c.loop-row-test.false in
    record {
      meet = sym (none_below (λ r. row_meets_some t g r u h) (row_count g) (λ k lt. c.loop-row.invariant k (omega (arith, lt, end, done))));
      in_one = tt;
      in_other = tt;
    }
