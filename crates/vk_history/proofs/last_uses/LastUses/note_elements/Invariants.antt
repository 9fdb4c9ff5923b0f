use Rattle.std.proofs.Common.{drop}
use Rattle.vk_history.proofs.Using.Lasts.{HaveCome}
use Rattle.vk_history.proofs.last_uses.LastUses.note_elements.Given as goal

abbrev pub invariant-loop-element : goal.invariant-loop-element
invariant-loop-element l = HaveCome l.counts l.fn.self l.self l.frontier l.queue (drop l.element-index l.elements) l.elements
