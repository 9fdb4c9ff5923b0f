use Rattle.std.proofs.Common.{sym, ap, ◌∙◌}
use Rattle.vk_model.specs.Memory.Room.{is_none_left}
use Rattle.vma_linear.specs.Inner.Slots.{Ranges}
use Rattle.vma_linear.proofs.BlockSteps.{lists_left, lists_turned}
use Rattle.vma_linear.proofs.linear.Linear.give_back.Goals as goal

pub invariant_of-self : goal.invariant_of-self
invariant_of-self c =
    let none = ap (λ (l : Ranges). is_none_left l.taken) (sym c.give_back.ensures) ∙ sym c.is_empty.ensures ∙ c.if-is_empty.true in
    let lists = lists_turned c.self.inside c.self.invariant c.args.start none in
    rw (c.swap.ensures.x_after, c.swap.ensures.y_after, c.give_back.ensures, c.give_back-2.ensures, c.give_back-3.ensures) lists

pub invariant_of-self-else-is_empty : goal.invariant_of-self-else-is_empty
invariant_of-self-else-is_empty c =
    let some = ap (λ (l : Ranges). is_none_left l.taken) (sym c.give_back.ensures) ∙ sym c.is_empty.ensures ∙ c.if-is_empty.false in
    let lists = lists_left c.self.inside c.self.invariant c.args.start some in
    rw (c.give_back.ensures, c.give_back-2.ensures, c.give_back-3.ensures) lists
