-- Blocks of which the same is taken, in whatever order it is listed.
use Rattle.std.specs.Prelude.{◌≡◌, ⊤, IsPermutation}
use Rattle.vk_model.specs.Memory.Room.{Block, General, Stack}

-- Two blocks have one size and the same ranges; of linear ones the order of the ranges counts too (VMA, "Custom memory pools" and "Linear allocation algorithm").
abbrev pub IsAlike : Block → Block → Type 0
IsAlike (General size taken) (General n others) = (n ≡ size) × IsPermutation taken others
IsAlike (Stack b) (Stack c) = c ≡ b
IsAlike _ _ = ⊥

-- A block can be defragmented (VMA, "Defragmentation").
abbrev pub IsGeneral : Block → Type 0
IsGeneral (General size taken) = ⊤
IsGeneral (Stack b) = ⊥
