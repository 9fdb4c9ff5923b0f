use Rattle.std.proofs.Common.{◌≡◌, ◌≤◌, ℕ, length, get_or}
use Rattle.vk_image_bytes.specs.Numbers.{level_first}
use Rattle.vk_image_bytes.proofs.image_bytes.level_firsts.Given as goal

abbrev pub invariant-loop-level : goal.invariant-loop-level
invariant-loop-level l = record { len : length l.firsts ≡ 14; firsts : (k : ℕ) → k ≤ l.level → get_or l.firsts k 0 ≡ level_first l.image k }
