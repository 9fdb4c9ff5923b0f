use Rattle.std.proofs.Common.{◌≡◌, take}
use Rattle.vk_candidates.proofs.applying.copies.Given as goal

-- what has been copied so far
abbrev pub invariant-loop-entry : goal.invariant-loop-entry
invariant-loop-entry l = l.trace.items ≡ take l.entry-index l.entries
