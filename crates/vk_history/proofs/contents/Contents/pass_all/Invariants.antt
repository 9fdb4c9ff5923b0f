use Rattle.std.proofs.Common.{drop}
use Rattle.vk_history.proofs.Kept.PassingAll.{HavePassed}
use Rattle.vk_history.proofs.contents.Contents.pass_all.Given as goal

abbrev pub invariant-loop-element : goal.invariant-loop-element
invariant-loop-element l = HavePassed l.fn.self l.self l.spots l.frontier l.queue (drop l.element-index l.elements) l.elements
