use Rattle.std.proofs.Common.{inl, inr, arith}
use Rattle.vk_order.specs.Inner.Counts.{made_visible_on}
use Rattle.vk_order.proofs.OwnCounts.{all_visible}
use Rattle.vk_order.proofs.owning.show_all.Goals as goal

pub returns-then-index-len : goal.returns-then-index-len
unfolding made_visible_on
returns-then-index-len c =
    all_visible c.args.tallies.now c.args.shows c.args.counts.now.items c.loop-index.counts.items c.loop-index.index (inr (omega arith)) (omega arith) c.loop-index.invariant.done c.loop-index.invariant.rest

pub returns : goal.returns
unfolding made_visible_on
returns c =
    all_visible c.args.tallies.now c.args.shows c.args.counts.now.items c.loop-index.counts.items c.loop-index.index (inl (omega arith)) (omega arith) c.loop-index.invariant.done c.loop-index.invariant.rest
