use Rattle.std.proofs.Common.{◌≡◌, List, length}
use Rattle.vk_model.specs.Trace.Point.{Past}
use Rattle.vk_model.specs.Sync.Node.{nodes}
use Rattle.vk_model.specs.Run.Runs.{Name}
use Rattle.vk_offers.specs.IsOffers.{IsOffers}
use Rattle.vk_offers.specs.Inner.Rows.{AreCounted}
use Rattle.vk_offers.proofs.offers.Offers.counts_of.Given as goal

abbrev pub invariant-loop-row : goal.invariant-loop-row
invariant-loop-row l = record {
  lengths : length l.counts.items ≡ l.row-index;
  counted : (past : Past) (done : List Name) → IsOffers l.self past done → AreCounted (nodes past) l.rows l.counts.items;
}
