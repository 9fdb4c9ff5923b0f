use Rattle.std.proofs.Common.{ap, sym, ◌∙◌, ◌||◌, nat_lt}
use Rattle.std.specs.List.{list_any}
use Rattle.vk_model.specs.Sync.Node.{Hosts, nodes}
use Rattle.vk_touches.specs.Touched.{next_node}
use Rattle.vk_history.proofs.Using.Lasts.{is_left}
use Rattle.vk_history.proofs.Using.Busy.{busy_is}
use Rattle.vk_history.proofs.uses.Uses.is_busy.Goals as goal

pub returns-then-has : goal.returns-then-has
returns-then-has c = λ past p x ordered is are new_node.
    let waits = c.has.ensures ∙ ap (nat_lt 0) (are.waiting c.args.resource) in
    c.if-has.true ∙ sym (busy_is past p x ordered is c.args.resource ∙ ap (λ b. b || list_any (is_left c.args.resource (nodes past) (next_node past p (Hosts x))) (nodes past)) (sym waits ∙ c.if-has.true))

pub returns-else-has : goal.returns-else-has
returns-else-has c = λ past p x ordered is are new_node.
    let waits = c.has.ensures ∙ ap (nat_lt 0) (are.waiting c.args.resource) in
    c.is_unfinished.ensures (nodes past) (next_node past p (Hosts x)) new_node (are.last c.args.resource)
    ∙ sym (busy_is past p x ordered is c.args.resource ∙ ap (λ b. b || list_any (is_left c.args.resource (nodes past) (next_node past p (Hosts x))) (nodes past)) (sym waits ∙ c.if-has.false))
