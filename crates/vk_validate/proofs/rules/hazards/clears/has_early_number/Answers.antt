use Rattle.std.proofs.Common.{◌+◌, ◌*◌, ℕ, Bool, false, true, length, below_more, arith}
use Rattle.vk_touches.specs.Conflicts.{FoundIn, IsEarly}
use Rattle.vk_validate.proofs.Judging.Clearing.{found_from}
use Rattle.vk_validate.proofs.rules.hazards.clears.has_early_number.Goals as goal

pub loop-index-preserved : goal.loop-index-preserved
loop-index-preserved c =
    let s = c.args.ranges.now in
    let touches = c.args.contents.now.touches in
    below_more (λ (n : ℕ). FoundIn (IsEarly c.args.new_node.now) false touches (s.first + n * s.step) (s.first + n * s.step + s.size)) c.loop-index.index c.loop-index.invariant
    (found_from (λ (r : Bool) (low high : ℕ). FoundIn (IsEarly c.args.new_node.now) r touches low high) s (length touches) c.requires c.loop-index.index c.low.result c.loop-index-test.true c.low.ensures false (rw c.if-has_early.false at c.has_early.ensures))

pub returns-then-has_early : goal.returns-then-has_early
returns-then-has_early c =
    let s = c.args.ranges.now in
    let touches = c.args.contents.now.touches in (
      c.loop-index.index,
      c.loop-index-test.true,
      found_from (λ (r : Bool) (low high : ℕ). FoundIn (IsEarly c.args.new_node.now) r touches low high) s (length touches) c.requires c.loop-index.index c.low.result c.loop-index-test.true c.low.ensures true (rw c.if-has_early.true at c.has_early.ensures),
    )

pub returns : goal.returns
returns c = λ n lt. let last = c.loop-index-test.false in c.loop-index.invariant n (omega (arith, lt, last))
