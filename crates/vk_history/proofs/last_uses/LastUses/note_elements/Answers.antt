use Rattle.std.proofs.Common.{List, map, refl, subst, sym}
use Rattle.vk_model.specs.declared.command.Element.{Element}
use Rattle.vk_model.specs.Sync.Node.{Barrier, Depends, with_acts}
use Rattle.vk_history.specs.Uses.{AreLast, uses_in}
use Rattle.vk_history.proofs.Using.Lasts.{one_more, all_come, memory_comes}
use Rattle.vk_history.proofs.last_uses.LastUses.note_elements.Goals as goal

pub loop-element-preserved : goal.loop-element-preserved
loop-element-preserved c =
    one_more c.loop-element.counts c.note_element.new.counts c.args.self.now c.loop-element.self c.note_element.new.self c.args.frontier.now c.args.queue c.args.elements.now c.loop-element.element-index _ c.element-item.result c.loop-element-test.true c.element-item.is
    c.in_ok-note_element.ensures c.loop-element.invariant

pub loop-element-init : goal.loop-element-init
loop-element-init c = λ ns p r frontier on are. (ns, frontier.numbers, c.of-counts.ensures ns frontier, are, refl)

pub returns : goal.returns
returns c = all_come c.loop-element.counts c.args.self.now c.loop-element.self c.args.frontier.now c.args.queue c.args.elements.now c.loop-element.element-index c.loop-element-test.false c.loop-element.invariant

pub returns-then-is_memory_alone : goal.returns-then-is_memory_alone
returns-then-is_memory_alone c = λ ns p r frontier on are.
    let alone = c.is_memory_alone.ensures c.if-is_memory_alone.true in
    let kept = uses_in c.args.self.now r in
    subst (λ (es : List Element). AreLast kept (with_acts p (map (Depends Barrier) es) ns) r) (sym alone.1) (memory_comes kept r p ns alone.0 frontier.numbers are)
