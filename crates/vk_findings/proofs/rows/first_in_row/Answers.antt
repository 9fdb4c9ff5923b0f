use Rattle.std.proofs.Common.{◌<◌, ◌*◌, sym, arith}
use Rattle.vk_model.specs.Basics.{within}
use Rattle.vk_model.specs.Trace.Image.{texel}
use Rattle.vk_model.specs.Memory.Suballocation.{ranges_meet}
use Rattle.vk_model.specs.World.Areas.{row_count, row_start}
use Rattle.vk_overlaps.proofs.ListPairs.{none_below, one_below}
use Rattle.vk_findings.proofs.rows.first_in_row.Goals as goal

pub returns-in-Some : goal.returns-in-Some
returns-in-Some c =
    let t = texel c.args.format in
    let u = texel c.args.other_format in
    let g = c.args.one.now in
    let h = c.args.other.now in
    let s = c.loop-other_row.other_row in
    let end = c.row_count-other_row-end.ensures in
    let test = c.loop-other_row-test.true in
    let lt : s < row_count h = omega (arith, test, end) in
    let hit = rw (c.row_start-start.ensures.start, c.row_size-size.ensures, c.row_start-other_start.ensures.start, c.row_size-other_size.ensures) at (sym c.in-Some.ensures.meet) in
    record {
      meet = sym (one_below (λ s. ranges_meet (row_start t g c.args.row) (g.width * t) (row_start u h s) (h.width * u)) (row_count h) s lt hit);
      in_one = rw (c.row_start-start.ensures.start, c.row_size-size.ensures) at c.in-Some.ensures.in_one;
      in_other = one_below (λ s. within (row_start u h s) (h.width * u) c.in-Some.at) (row_count h) s lt (rw (c.row_start-other_start.ensures.start, c.row_size-other_size.ensures) at c.in-Some.ensures.in_other);
    }

pub returns : goal.returns
returns c =
    let t = texel c.args.format in
    let u = texel c.args.other_format in
    let g = c.args.one.now in
    let h = c.args.other.now in
    let end = c.row_count-other_row-end.ensures in
    let done = c.loop-other_row-test.false in
    record {
      meet = sym (none_below (λ s. ranges_meet (row_start t g c.args.row) (g.width * t) (row_start u h s) (h.width * u)) (row_count h) (λ k lt. rw (c.row_start-start.ensures.start, c.row_size-size.ensures) at (c.loop-other_row.invariant k (omega (arith, lt, end, done)))));
      in_one = tt;
      in_other = tt;
    }
