use Rattle.std.proofs.Common.{length}
use Rattle.vk_candidates.proofs.applying.+edited.Given as goal

-- the edits that are left
abbrev pub decreases-edited : goal.decreases-edited
decreases-edited l = length l.edits.now
