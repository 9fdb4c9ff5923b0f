use Rattle.std.proofs.Common.{sym, ◌∙◌}
use Rattle.vk_model.proofs.Lists.Truths.{clash}
use Rattle.vk_order.specs.Inner.Tallies.{lines_of}
use Rattle.vk_order.proofs.ServeLemmas.{part_reached}
use Rattle.vk_order.proofs.frontier.Frontier.gives.Goals as goal

pub returns-then-is_open : goal.returns-then-is_open
returns-then-is_open c = λ ns n m q cached new_node any part hm on at.
    let ls = lines_of c.args.self.now.tallies.items in
    let reached = part_reached ns new_node.numbers.1 ls q c.args.part.now part m c.args.spot.line c.args.spot.place hm on at in
    let is_open = sym (c.is_open.ensures ns ls n q cached new_node part any) ∙ c.if-is_open.true in
    ((λ h. (is_open, reached.0 (sym c.reaches.ensures ∙ h))), (λ both. c.reaches.ensures ∙ reached.1 both.1))

pub returns-else-is_open : goal.returns-else-is_open
returns-else-is_open c = λ ns n m q cached new_node any part hm on at.
    let ls = lines_of c.args.self.now.tallies.items in
    ((λ h. clash h c.if-is_open.false), (λ both. c.is_open.ensures ns ls n q cached new_node part any ∙ both.0))
