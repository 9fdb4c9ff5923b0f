use Rattle.std.proofs.Common.{◌≤◌, ◌+◌, Bool, false, length, take}
use Rattle.vk_model.specs.declared.command.BufferCopy.{BufferCopy}
use Rattle.vk_touches.specs.Conflicts.{FoundAmong, FoundAt, Misses}
use Rattle.vk_validate.proofs.rules.hazards.copies.has_missed_source.Given as goal

abbrev pub invariant-loop-copy : goal.invariant-loop-copy
invariant-loop-copy l = FoundAmong (λ (r : Bool) (g : BufferCopy). g.source_offset + g.size ≤ length l.contents.touches → FoundAt (Misses l.contents.is_cached l.by) r l.contents.touches g.source_offset (g.source_offset + g.size)) false (take l.copy-index l.copies)
