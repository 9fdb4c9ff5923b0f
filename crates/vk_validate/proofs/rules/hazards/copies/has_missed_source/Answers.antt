use Rattle.std.proofs.Common.{◌≤◌, ◌+◌, Bool, length}
use Rattle.vk_model.specs.declared.command.BufferCopy.{BufferCopy}
use Rattle.vk_touches.specs.Conflicts.{FoundAt, Misses}
use Rattle.vk_validate.proofs.Judging.Among.{none_next, some_here, none_at_all}
use Rattle.vk_validate.proofs.rules.hazards.copies.has_missed_source.Goals as goal

pub loop-copy-preserved : goal.loop-copy-preserved
loop-copy-preserved c = none_next (λ (r : Bool) (g : BufferCopy). g.source_offset + g.size ≤ length c.args.contents.now.touches → FoundAt (Misses c.args.contents.now.is_cached c.args.by.now) r c.args.contents.now.touches g.source_offset (g.source_offset + g.size)) c.args.copies.now c.loop-copy.copy-index _ c.loop-copy-test.true c.loop-copy.invariant (rw c.if-has_missed.false at c.has_missed.ensures)

pub returns-then-has_missed : goal.returns-then-has_missed
returns-then-has_missed c = some_here (λ (r : Bool) (g : BufferCopy). g.source_offset + g.size ≤ length c.args.contents.now.touches → FoundAt (Misses c.args.contents.now.is_cached c.args.by.now) r c.args.contents.now.touches g.source_offset (g.source_offset + g.size)) c.args.copies.now c.loop-copy.copy-index _ c.loop-copy-test.true (rw c.if-has_missed.true at c.has_missed.ensures)

pub returns : goal.returns
returns c = none_at_all (λ (r : Bool) (g : BufferCopy). g.source_offset + g.size ≤ length c.args.contents.now.touches → FoundAt (Misses c.args.contents.now.is_cached c.args.by.now) r c.args.contents.now.touches g.source_offset (g.source_offset + g.size)) c.args.copies.now c.loop-copy.copy-index c.loop-copy.auto.copy-index-end c.loop-copy-test.false c.loop-copy.invariant
