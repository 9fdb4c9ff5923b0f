use Rattle.std.proofs.Common.{◌≡◌, ◌∙◌, ℕ, ap, sym}
use Rattle.std.specs.Prelude.{nat_lt, if◌then◌else◌}
use Rattle.std.proofs.lemmas.Bool.{and_parts}
use Rattle.vk_order.specs.Wide.{access_of}
use Rattle.vk_order.specs.Lines.{same_line}
use Rattle.vk_order.specs.Inner.Counts.{count_in}
use Rattle.vk_order.specs.Inner.Kept.{clock_at}
use Rattle.vk_order.specs.Inner.Rows.{Visible, OnHost}
use Rattle.vk_order.specs.Inner.Fronts.{row_in}
use Rattle.vk_order.proofs.ClockLemmas.{line_same}
use Rattle.vk_order.proofs.CountLemmas.{zero_in, at_line}
use Rattle.vk_order.proofs.ServeLemmas.{made_visible, answered_any}
use Rattle.vk_order.proofs.UnseenLemmas.{visible_each}
use Rattle.vk_order.specs.Inner.Tallies.{lines_of}
use Rattle.vk_order.proofs.frontier.Frontier.visible_prefix.Goals as goal

pub returns : goal.returns
returns c = λ write from b among.
    let s = c.args.new_node.now in
    let l = c.args.line in
    let k = access_of c.args.access in
    let parts = and_parts (same_line l write.line) (nat_lt write.place c.known.result) among in
    let line : l ≡ write.line = line_same l write.line parts.0 in
    let count : c.known.result ≡ clock_at (lines_of s.tallies.now) (row_in (if s.is_host then OnHost k else Visible k) s.front) l = c.known.ensures ∙ sym (at_line (count_in (if s.is_host then OnHost k else Visible k)) (zero_in (if s.is_host then OnHost k else Visible k)) (lines_of s.tallies.now) s.front.counts.items l) in
    visible_each c.args.self.now s write from c.args.access b
    (λ ns n w cached new_node wrote on place asked.
    (made_visible s ns n w write.line k new_node wrote.there on (answered_any cached n.act k b asked)).0
    (ap (λ (i : ℕ). nat_lt i (clock_at (lines_of s.tallies.now) (row_in (if s.is_host then OnHost k else Visible k) s.front) write.line)) place
    ∙ ap (λ (m : Rattle.vk_order.specs.declared.lines.Line.Line). nat_lt write.place (clock_at (lines_of s.tallies.now) (row_in (if s.is_host then OnHost k else Visible k) s.front) m)) (sym line)
    ∙ ap (nat_lt write.place) (sym count) ∙ parts.1))
