use Rattle.std.proofs.Common.{◌≤◌, ◌+◌, Bool, false, length, take}
use Rattle.vk_model.specs.declared.command.BufferCopy.{BufferCopy}
use Rattle.vk_touches.specs.Conflicts.{FoundAmong, FoundIn, IsEarly}
use Rattle.vk_validate.proofs.rules.hazards.copies.has_early_destination.Given as goal

abbrev pub invariant-loop-copy : goal.invariant-loop-copy
invariant-loop-copy l = FoundAmong (λ (r : Bool) (g : BufferCopy). g.destination_offset + g.size ≤ length l.contents.touches → FoundIn (IsEarly l.new_node) r l.contents.touches g.destination_offset (g.destination_offset + g.size)) false (take l.copy-index l.copies)
