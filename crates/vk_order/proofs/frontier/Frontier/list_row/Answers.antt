use Rattle.std.proofs.Common.{◌∙◌, List, refl, ap, sym}
use Rattle.vk_order.specs.declared.tallies.LineTally.{LineTally}
use Rattle.vk_order.specs.NodeViews.{act_of}
use Rattle.vk_order.specs.Lines.{class_on}
use Rattle.vk_order.specs.Inner.Places.{index_in}
use Rattle.vk_order.specs.Inner.Tallies.{lines_of}
use Rattle.vk_order.proofs.ListLemmas.{longer_same}
use Rattle.vk_order.proofs.frontier.Frontier.list_row.Goals as goal

pub returns-in-Some-clause-listed : goal.returns-in-Some-clause-listed
returns-in-Some-clause-listed c =
    ap (λ (l : List LineTally). index_in (lines_of l) (class_on c.args.row.now.point.queue (act_of c.args.row.now.act))) (sym c.as_slice.ensures.value) ∙ sym c.in-Some.ensures

pub returns-in-Some-clause-longer : goal.returns-in-Some-clause-longer
returns-in-Some-clause-longer c = let old = lines_of c.args.self.now.tallies.items in longer_same old old refl
