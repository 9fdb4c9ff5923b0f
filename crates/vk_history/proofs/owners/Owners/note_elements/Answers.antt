use Rattle.std.proofs.Common.{List, map, refl, subst, sym}
use Rattle.std.specs.List.{fold}
use Rattle.vk_model.specs.declared.command.Element.{Element}
use Rattle.vk_model.specs.Sync.Node.{Barrier, Depends, with_acts}
use Rattle.vk_model.specs.World.Effect.{after_element}
use Rattle.vk_model.specs.World.Ownership.{family_of}
use Rattle.vk_history.specs.Owners.{AreOwned}
use Rattle.vk_history.proofs.Owning.{one_more, all_come, memory_comes}
use Rattle.vk_history.proofs.owners.Owners.note_elements.Goals as goal

pub loop-element-preserved : goal.loop-element-preserved
loop-element-preserved c =
    one_more c.loop-element.counts c.note_element.new.counts c.args.self.now c.loop-element.self c.note_element.new.self c.args.objects.now c.args.frontier.now c.args.queue c.args.elements.now c.loop-element.element-index _ c.element-item.result c.loop-element-test.true c.element-item.is
    c.in_ok-note_element.ensures c.loop-element.invariant

pub loop-element-init : goal.loop-element-init
loop-element-init c = λ past w ns p on made frontier are. (ns, w, frontier.numbers, c.of-counts.ensures ns frontier, are, refl, refl)

pub returns : goal.returns
returns c = all_come c.loop-element.counts c.args.self.now c.loop-element.self c.args.objects.now c.args.frontier.now c.args.queue c.args.elements.now c.loop-element.element-index c.loop-element-test.false c.loop-element.invariant

pub returns-then-is_memory_alone : goal.returns-then-is_memory_alone
returns-then-is_memory_alone c = λ past w ns p on made frontier are.
    let alone = c.is_memory_alone.ensures c.if-is_memory_alone.true in
    let family = family_of c.args.queue in
    subst (λ (es : List Element). AreOwned c.args.self.now (fold (after_element past family) w es).owner (with_acts p (map (Depends Barrier) es) ns)) (sym alone.1)
    (memory_comes c.args.self.now past w family p ns alone.0 frontier.numbers are)
