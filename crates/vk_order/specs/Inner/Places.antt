-- Lines among others.
use Rattle.std.specs.Prelude.{ℕ, List, position, Option}
use Rattle.vk_order.specs.declared.lines.Line.{Line}
use Rattle.vk_order.specs.Lines.{same_line}

-- Where a line is among others.
abbrev pub index_in : List Line → Line → Option ℕ
index_in ls l = position (λ m. same_line m l) ls
