use Rattle.std.proofs.Common.{length}
use Rattle.vk_candidates.proofs.moving.+moved.Given as goal

-- the edits that are left
abbrev pub decreases-moved : goal.decreases-moved
decreases-moved l = length l.edits.now
