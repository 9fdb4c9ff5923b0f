use Rattle.std.proofs.Common.{ℕ, Bool, length}
use Rattle.vk_touches.specs.Conflicts.{FoundIn, IsEarly}
use Rattle.vk_validate.specs.Inner.Subresources.{FoundInSubresources}
use Rattle.vk_validate.proofs.Judging.Among.{none_next, some_here, none_at_all}
use Rattle.vk_validate.proofs.Judging.Clearing.{ends_within}
use Rattle.vk_validate.proofs.rules.hazards.clears.has_early_range.Goals as goal

pub has_early_number-requires : goal.has_early_number-requires
has_early_number-requires c = ends_within c.args.bytes.now _ c.ranges-numbers.result (length c.args.contents.now.touches) c.ranges-numbers.ensures c.requires

pub loop-range-preserved : goal.loop-range-preserved
loop-range-preserved c = none_next (FoundInSubresources (λ (r : Bool) (low high : ℕ). FoundIn (IsEarly c.args.new_node.now) r c.args.contents.now.touches low high) c.args.bytes.now) c.args.ranges.now c.loop-range.range-index _ c.loop-range-test.true c.loop-range.invariant
    (c.ranges-numbers.result, c.ranges-numbers.ensures, rw c.if-has_early_number.false at c.has_early_number.ensures)

pub returns-then-has_early_number : goal.returns-then-has_early_number
returns-then-has_early_number c = some_here (FoundInSubresources (λ (r : Bool) (low high : ℕ). FoundIn (IsEarly c.args.new_node.now) r c.args.contents.now.touches low high) c.args.bytes.now) c.args.ranges.now c.loop-range.range-index _ c.loop-range-test.true
    (c.ranges-numbers.result, c.ranges-numbers.ensures, rw c.if-has_early_number.true at c.has_early_number.ensures)

pub returns : goal.returns
returns c = none_at_all (FoundInSubresources (λ (r : Bool) (low high : ℕ). FoundIn (IsEarly c.args.new_node.now) r c.args.contents.now.touches low high) c.args.bytes.now) c.args.ranges.now c.loop-range.range-index c.loop-range.auto.range-index-end c.loop-range-test.false c.loop-range.invariant
