use Rattle.std.proofs.Common.{◌≤◌, ◌-◌}
use Rattle.vk_image_bytes.specs.Numbers.{level_first}
use Rattle.vk_image_bytes.proofs.image_bytes.ImageBytes.level_at.Given as goal

abbrev pub invariant-loop-level : goal.invariant-loop-level
invariant-loop-level l = level_first l.self (l.level - 1) ≤ l.byte
