use Rattle.std.proofs.Common.{◌<◌, length, arith}
use Rattle.vk_map_cache.specs.Inner.Marks.{changed}
use Rattle.vk_map_cache.proofs.CellLemmas.{before_more, marks_kept, kept_after}
use Rattle.vk_map_cache.proofs.mark.change_bytes.Goals as goal

pub loop-i-preserved : goal.loop-i-preserved
loop-i-preserved c =
    let at = c.loop-i.invariant in
    let i = c.loop-i.i in
    let byte = c.changed_byte-byte.result in
    let in_region : i < length c.loop-i.region = omega arith in
    let in_marks : i < length c.loop-i.marks = omega arith in
    let in_values : i < length c.loop-i.values = omega arith in
    record {
      before = before_more (changed c.args.change) c.args.marks.now c.loop-i.marks c.args.values.now c.loop-i.values c.args.region.now c.loop-i.region i byte in_marks in_values in_region at.marks at.values at.region at.before c.changed_byte-byte.ensures;
      marks = marks_kept (changed c.args.change) c.args.marks.now c.loop-i.marks c.args.values.now c.loop-i.values c.args.region.now c.loop-i.region i byte in_marks in_values in_region at.marks at.values at.region byte.mark;
      values = kept_after c.args.values.now c.loop-i.values i byte.value at.values;
      region = kept_after c.args.region.now c.loop-i.region i byte.region at.region;
    }

pub returns : goal.returns
returns c = λ k cell lt was. c.loop-i.invariant.before k cell (omega arith) was
