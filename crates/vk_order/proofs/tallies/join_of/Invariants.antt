use Rattle.std.proofs.Common.{◌≡◌, List, true, false}
use Rattle.vk_model.specs.Sync.Node.{Node}
use Rattle.vk_order.specs.NodeViews.{act_of}
use Rattle.vk_order.specs.Inner.Leads.{line_leads}
use Rattle.vk_order.specs.Inner.Fronts.{IsFront}
use Rattle.vk_order.specs.Inner.Tallies.{lines_of, IsTallied}
use Rattle.vk_order.proofs.TallyLemmas.{of_first}
use Rattle.vk_order.proofs.tallies.join_of.Given as goal

abbrev pub invariant-loop-tally : goal.invariant-loop-tally
invariant-loop-tally l = record {
  none : l.is_first ≡ true → (k : Node) → of_first (line_leads l.queue (act_of l.act)) l.tallies l.tally-index k ≡ false;
  some : l.is_first ≡ false → (ns : List Node) → IsTallied ns l.tallies → IsFront ns (lines_of l.tallies) (of_first (line_leads l.queue (act_of l.act)) l.tallies l.tally-index) l.front;
}
