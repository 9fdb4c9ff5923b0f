use Rattle.std.proofs.Common.{List, Bool, ◌||◌, take}
use Rattle.std.specs.List.{list_any}
use Rattle.vk_model.specs.Sync.Node.{Node}
use Rattle.vk_order.specs.declared.lines.Line.{Line}
use Rattle.vk_order.specs.Inner.Fronts.{IsFront}
use Rattle.vk_order.specs.Inner.Names.{is_awaited_for, IsNames}
use Rattle.vk_order.proofs.names.Names.join_each.Given as goal

abbrev pub invariant-loop-wait : goal.invariant-loop-wait
invariant-loop-wait l = (ns : List Node) (ls : List Line) (f : Node → Bool) → IsNames ns ls l.self → IsFront ns ls f l.fn.front
    → IsFront ns ls (λ k. f k || list_any (λ w. is_awaited_for ns w.semaphore w.value k) (take l.wait-index l.waits)) l.front
