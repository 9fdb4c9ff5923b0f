use Rattle.vk_image_bytes.proofs.Joins.{layer_added}
use Rattle.vk_image_bytes.proofs.joining.Copies.add_rows.Goals as goal
use Rattle.vk_image_bytes.proofs.joining.Copies.add_rows.Goals.{then-lie_together+in_ok-add_whole_layer, else-lie_together+in_ok-add_layer}

pub loop-layer-preserved : goal.loop-layer-preserved
loop-layer-preserved c fit =
    let r = c.args.rows.now in
    let n = c.loop-layer.layer in
    let before = c.loop-layer.invariant fit in
    elim c.if-lie_together.branch [
      | then-lie_together+in_ok-add_whole_layer w ↦ rw w.self-is (layer_added c.args.self.now c.loop-layer.self w.add_whole_layer.new.self r n before (w.in_ok-add_whole_layer.ensures c.loop-layer-test.true fit))
      | else-lie_together+in_ok-add_layer w ↦ rw w.self-is (layer_added c.args.self.now c.loop-layer.self w.add_layer.new.self r n before (w.in_ok-add_layer.ensures c.loop-layer-test.true fit))
    ]
