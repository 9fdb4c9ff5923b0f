use Rattle.std.proofs.Common.{◌≤◌, ◌+◌, Bool, length}
use Rattle.vk_model.specs.declared.command.BufferCopy.{BufferCopy}
use Rattle.vk_touches.specs.Conflicts.{FoundIn, IsEarly}
use Rattle.vk_validate.proofs.Judging.Among.{none_next, some_here, none_at_all}
use Rattle.vk_validate.proofs.rules.hazards.copies.has_early_destination.Goals as goal

pub loop-copy-preserved : goal.loop-copy-preserved
loop-copy-preserved c = none_next (λ (r : Bool) (g : BufferCopy). g.destination_offset + g.size ≤ length c.args.contents.now.touches → FoundIn (IsEarly c.args.new_node.now) r c.args.contents.now.touches g.destination_offset (g.destination_offset + g.size)) c.args.copies.now c.loop-copy.copy-index _ c.loop-copy-test.true c.loop-copy.invariant (rw c.if-has_early.false at c.has_early.ensures)

pub returns-then-has_early : goal.returns-then-has_early
returns-then-has_early c = some_here (λ (r : Bool) (g : BufferCopy). g.destination_offset + g.size ≤ length c.args.contents.now.touches → FoundIn (IsEarly c.args.new_node.now) r c.args.contents.now.touches g.destination_offset (g.destination_offset + g.size)) c.args.copies.now c.loop-copy.copy-index _ c.loop-copy-test.true (rw c.if-has_early.true at c.has_early.ensures)

pub returns : goal.returns
returns c = none_at_all (λ (r : Bool) (g : BufferCopy). g.destination_offset + g.size ≤ length c.args.contents.now.touches → FoundIn (IsEarly c.args.new_node.now) r c.args.contents.now.touches g.destination_offset (g.destination_offset + g.size)) c.args.copies.now c.loop-copy.copy-index c.loop-copy.auto.copy-index-end c.loop-copy-test.false c.loop-copy.invariant
