use Rattle.vk_overlaps.proofs.overlaps.+overlapping_within.Given as goal

abbrev pub decreases-overlapping_within : goal.decreases-overlapping_within
decreases-overlapping_within l = l.depth
