use Rattle.std.proofs.Common.{sym, ◌∙◌, ◌*◌, arith}
use Rattle.vk_model.specs.Trace.Image.{texel}
use Rattle.vk_model.specs.Memory.Suballocation.{ranges_meet}
use Rattle.vk_model.specs.World.Areas.{row_count, row_start}
use Rattle.vk_overlaps.proofs.ListPairs.{none_below, one_below}
use Rattle.vk_overlaps.proofs.rows.has_bytes.Goals as goal

pub returns-then-bytes_meet : goal.returns-then-bytes_meet
returns-then-bytes_meet c =
    let t = texel c.args.format in
    let end = c.row_count-row-end.ensures in
    let lt = c.loop-row-test.true in
    let hit = rw (c.row_start.ensures.start, c.row_size.ensures) at (sym c.bytes_meet.ensures ∙ c.if-bytes_meet.true) in
    sym (one_below (λ s. ranges_meet c.args.start c.args.size (row_start t c.args.region.now s) (c.args.region.now.width * t)) (row_count c.args.region.now) c.loop-row.row (omega (arith, lt, end)) hit)

pub returns : goal.returns
returns c =
    let t = texel c.args.format in
    let end = c.row_count-row-end.ensures in
    let done = c.loop-row-test.false in
    sym (none_below (λ s. ranges_meet c.args.start c.args.size (row_start t c.args.region.now s) (c.args.region.now.width * t)) (row_count c.args.region.now) (λ k lt. c.loop-row.invariant k (omega (arith, lt, end, done))))
