use Rattle.std.proofs.Common.{Bool}
use Rattle.vk_model.specs.Sync.Node.{Node}
use Rattle.vk_order.specs.NodeViews.{act_of}
use Rattle.vk_order.specs.Lines.{class_of}
use Rattle.vk_order.specs.Inner.Leads.{line_leads}
use Rattle.vk_order.specs.Inner.Tallies.{lines_of}
use Rattle.vk_order.proofs.frontier.find_front.Goals as goal

pub returns : goal.returns
returns c = λ ns j tallied names.
    let ts = c.args.tallies.now in
    let row = c.args.row.now in
    let passes : Node → Bool = (λ k. line_leads row.point.queue (act_of row.act) (class_of k)) in
    c.in_ok-join_names.ensures ns (lines_of ts) passes j names (c.in_ok-join_of.ensures ns tallied)
