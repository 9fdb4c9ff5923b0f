-- What came of the search for a repair.
use Rattle.std.specs.Prelude.{List, ⊤}
use Rattle.vk_model.specs.declared.entry.Entry.{Entry}
use Rattle.vk_model.specs.declared.rule.At.{At}
use Rattle.vk_repairs.specs.Repairs.{IsRepair}
use Rattle.vk_explain.specs.declared.repairs.RepairSearch.{RepairSearch}
use Rattle.vk_explain.specs.declared.repairs.RepairSearch.TheVariants.{TooLarge, Nothing, Found}

-- What was found is a repair of the trace that is refused there.
abbrev pub IsSought : List Entry → At → RepairSearch → Type 0
IsSought trace refused TooLarge = ⊤
IsSought trace refused Nothing = ⊤
IsSought trace refused (Found r) = IsRepair trace refused r
