use Rattle.vk_history.proofs.Kept.ImageRanges.{cleared_start, cleared_next}
use Rattle.vk_history.proofs.resource_contents.ResourceContents.clear.Goals as goal

pub loop-range-init : goal.loop-range-init
loop-range-init c = cleared_start c.args.family c.args.spot c.args.self.now c.take_over.new.self c.in_ok-take_over.ensures

pub loop-range-preserved : goal.loop-range-preserved
loop-range-preserved c = cleared_next c.args.ranges.now c.loop-range.range-index _ c.loop-range-test.true c.args.family c.args.spot c.args.self.now c.loop-range.self c.define.new.self c.loop-range.invariant c.in_ok-define.ensures
