use Rattle.std.proofs.Common.{◌≡◌, ℕ, IsTrue, sym, ◌∙◌, subst}
use Rattle.std.specs.Prelude.{nat_lt, ◌↔◌, if◌then◌else◌}
use Rattle.vk_model.specs.Sync.Edge.{edge}
use Rattle.vk_order.specs.Wide.{access_of}
use Rattle.vk_order.specs.Inner.Counts.{count_in}
use Rattle.vk_order.specs.Inner.Kept.{clock_at}
use Rattle.vk_order.specs.Inner.Rows.{Visible, OnHost, KnowsOne}
use Rattle.vk_order.specs.Inner.Fronts.{row_in}
use Rattle.vk_order.specs.Inner.Parts.{asked_of}
use Rattle.vk_order.proofs.CountLemmas.{zero_in, at_line}
use Rattle.vk_order.proofs.ServeLemmas.{made_visible}
use Rattle.vk_order.specs.Inner.Tallies.{lines_of}
use Rattle.vk_order.proofs.new_node.NewNode.shows.Goals as goal

pub returns : goal.returns
returns c = λ ns n m new_node there on at any.
    let s = c.args.self.now in
    let l = c.args.spot.line in
    let k = access_of c.args.access in
    let count : c.known.result ≡ clock_at (lines_of s.tallies.now) (row_in (if s.is_host then OnHost k else Visible k) s.front) l = c.known.ensures ∙ sym (at_line (count_in (if s.is_host then OnHost k else Visible k)) (zero_in (if s.is_host then OnHost k else Visible k)) (lines_of s.tallies.now) s.front.counts.items l) in
    subst (λ (i : ℕ). IsTrue (nat_lt c.args.spot.place i) ↔ KnowsOne (asked_of n.act k) ns (λ q. edge ns q n) m) (sym count)
    (subst (λ (i : ℕ). IsTrue (nat_lt i (clock_at (lines_of s.tallies.now) (row_in (if s.is_host then OnHost k else Visible k) s.front) l)) ↔ KnowsOne (asked_of n.act k) ns (λ q. edge ns q n) m) at (made_visible s ns n m l k new_node there on any))
