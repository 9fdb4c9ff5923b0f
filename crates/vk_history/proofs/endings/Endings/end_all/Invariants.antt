use Rattle.std.proofs.Common.{take}
use Rattle.vk_history.specs.Ended.{Ends}
use Rattle.vk_history.proofs.endings.Endings.end_all.Given as goal

abbrev pub invariant-loop-id : goal.invariant-loop-id
invariant-loop-id l = Ends l.fn.self l.self (take l.id-index l.ids) l.number
