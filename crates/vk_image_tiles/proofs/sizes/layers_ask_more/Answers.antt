use Rattle.std.proofs.Common.{arith, ◌+◌, ◌<◌, sym, ◌∙◌, ap}
use Rattle.std.specs.List.{sum_by}
use Rattle.vk_model.specs.Basics.{below}
use Rattle.vk_model.specs.Trace.Image.{level_size}
use Rattle.vk_image_tiles.proofs.Levels.{some_more, sum_more}
use Rattle.vk_image_tiles.proofs.sizes.layers_ask_more.Goals as goal

pub returns-then-total-from : goal.returns-then-total-from
returns-then-total-from c =
    let over : c.args.limit < c.loop-level.total + c.level_size-total.result = omega arith in
    some_more (level_size c.args.info.now) c.loop-level.level c.args.info.now.levels c.args.info.now.layers c.args.limit (omega arith) (omega arith) (rw (← c.loop-level.invariant.is, ← c.level_size-total.ensures.size) over)

pub loop-level-preserved : goal.loop-level-preserved
loop-level-preserved c = record { is = ap (λ s. s + c.level_size-total.result) c.loop-level.invariant.is ∙ ap (λ s. sum_by (level_size c.args.info.now) (below c.loop-level.level) + s) c.level_size-total.ensures.size ∙ sym (sum_more (level_size c.args.info.now) c.loop-level.level); within = omega arith }
