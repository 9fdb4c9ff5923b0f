use Rattle.std.proofs.Common.{◌≡◌, ◌&&◌, ℕ, refl, ap, sym, ◌∙◌}
use Rattle.std.specs.Prelude.{nat_lt, if◌then◌else◌}
use Rattle.vk_model.specs.Sync.Node.{Act}
use Rattle.vk_model.specs.Sync.Edge.{is_host, is_element}
use Rattle.vk_order.specs.declared.lines.Line.TheVariants.{Commands as OfCommands}
use Rattle.vk_order.specs.Wide.{access_of}
use Rattle.vk_order.specs.Lines.{place}
use Rattle.vk_order.specs.Inner.Counts.{count_in}
use Rattle.vk_order.specs.Inner.Kept.{clock_at}
use Rattle.vk_order.specs.Inner.Rows.{Visible, OnHost}
use Rattle.vk_order.specs.Inner.Fronts.{row_in}
use Rattle.vk_order.proofs.CountLemmas.{zero_in, at_line}
use Rattle.vk_order.proofs.LinePrefixes.{command_line}
use Rattle.vk_order.proofs.NewNodeLemmas.{exact_row}
use Rattle.vk_order.specs.Inner.Tallies.{lines_of}
use Rattle.vk_order.proofs.new_node.NewNode.sees.Goals as goal

pub returns : goal.returns
returns c = λ ns n m cached b new_node there on at wide asked.
    let s = c.args.self.now in
    let q = c.args.queue in
    let k = access_of c.args.access in
    let of = command_line m.point.queue q m.act on in
    let count : c.known.result ≡ clock_at (lines_of s.tallies.now) (row_in (if s.is_host then OnHost k else Visible k) s.front) (OfCommands q) = c.known.ensures ∙ sym (at_line (count_in (if s.is_host then OnHost k else Visible k)) (zero_in (if s.is_host then OnHost k else Visible k)) (lines_of s.tallies.now) s.front.counts.items (OfCommands q)) in
    ap (λ (i : ℕ). nat_lt i c.known.result) (sym at) ∙ ap (nat_lt (place ns (OfCommands q) m.number)) count
    ∙ exact_row s (OfCommands q) k ns n m cached b new_node there on (ap is_element of.1) (ap (λ (a : Act). is_host a && cached b) of.1) wide n.act refl asked
