use Rattle.std.proofs.Common.{◌≡◌, ◌≤◌, ℕ, ◌*◌, length, get_or}
use Rattle.vk_model.specs.Memory.Addresses.{level_start}
use Rattle.vk_image_tiles.proofs.shapes.level_starts.Given as goal

abbrev pub invariant-loop-level : goal.invariant-loop-level
invariant-loop-level l = record { len : length l.starts ≡ 14; starts : (k : ℕ) → k ≤ l.level → get_or l.starts k 0 ≡ level_start l.image k; within : get_or l.starts l.level 0 ≤ l.level * 268435456 }
