use Rattle.std.proofs.Common.{drop}
use Rattle.vk_history.proofs.Owning.{HaveCome}
use Rattle.vk_history.proofs.owners.Owners.note_elements.Given as goal

abbrev pub invariant-loop-element : goal.invariant-loop-element
invariant-loop-element l = HaveCome l.counts l.fn.self l.self l.objects l.frontier l.queue (drop l.element-index l.elements) l.elements
