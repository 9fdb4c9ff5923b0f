use Rattle.std.proofs.Common.{◌<◌, ◌^◌, refl, arith}
use Rattle.vk_image_bytes.specs.Inner.Rows.{place_at}
use Rattle.vk_image_bytes.proofs.Joins.{copy_of, row_added}
use Rattle.vk_image_bytes.proofs.joining.Copies.add_layer.Goals as goal

pub loop-row-preserved : goal.loop-row-preserved
loop-row-preserved c there fit =
    let r = c.args.rows.now in
    let z = c.args.layer in
    let y = c.loop-row.row in
    let source : place_at r.source z y < 2 ^ 64 = omega (arith, fit.source z y there c.loop-row-test.true) in
    let destination : place_at r.destination z y < 2 ^ 64 = omega (arith, fit.destination z y there c.loop-row-test.true) in
    row_added c.args.self.now c.loop-row.self c.add.new.self r z y (copy_of c.at-source_offset.result c.at-destination_offset.result r.size)
    (rw (c.at-source_offset.ensures source, c.at-destination_offset.ensures destination) refl) (c.loop-row.invariant there fit) c.in_ok-add.ensures
