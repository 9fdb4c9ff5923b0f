use Rattle.std.proofs.Common.{List, subst, sym}
use Rattle.std.specs.List.{fold}
use Rattle.vk_model.specs.declared.command.Element.{Element}
use Rattle.vk_model.specs.Sync.Node.{nodes}
use Rattle.vk_model.specs.World.Effect.{after_element}
use Rattle.vk_model.specs.World.Ownership.{family_of}
use Rattle.vk_history.specs.Contents.{AreAllAt}
use Rattle.vk_history.specs.Inner.Passing.{touched_by_all}
use Rattle.vk_history.proofs.Kept.PassingAll.{none_passed, one_passed, all_passed}
use Rattle.vk_history.proofs.contents.Contents.pass_all.Goals as goal

pub loop-element-init : goal.loop-element-init
loop-element-init c = none_passed c.args.self.now c.of-spots.result c.args.frontier.now c.args.queue c.args.elements.now (λ ns frontier. c.of-spots.ensures ns frontier)

pub loop-element-preserved : goal.loop-element-preserved
loop-element-preserved c = one_passed c.args.self.now c.loop-element.self c.pass.new.self c.loop-element.spots c.take.new.self c.args.frontier.now c.args.queue c.args.elements.now c.loop-element.element-index _ c.element-item.result c.in-Some.spot c.loop-element-test.true c.element-item.is
    c.in-Some.ensures c.in_ok-pass.ensures c.loop-element.invariant

pub returns : goal.returns
returns c = all_passed c.args.self.now c.loop-element.self c.loop-element.spots c.args.frontier.now c.args.queue c.args.elements.now c.loop-element.element-index c.loop-element-test.false c.loop-element.invariant

pub returns-then-is_memory_alone : goal.returns-then-is_memory_alone
returns-then-is_memory_alone c = λ past w t p on frontier there are.
    let alone = c.is_memory_alone.ensures c.if-is_memory_alone.true in
    subst (λ (es : List Element). AreAllAt c.args.self.now past (fold (after_element past (family_of c.args.queue)) w es) (touched_by_all past p (nodes past) es t)) (sym alone.1) are
