use Rattle.std.proofs.Common.{◌≡◌, refl, ap, sym, ◌∙◌, ℕ, nat_lt, arith}
use Rattle.vk_order.specs.declared.lines.Line.TheVariants.{Commands as OfCommands}
use Rattle.vk_order.specs.declared.counts.Counts.{Counts}
use Rattle.vk_order.specs.Lines.{place}
use Rattle.vk_order.specs.Inner.Fronts.{clock_in}
use Rattle.vk_order.specs.Inner.Kept.{clock_at}
use Rattle.vk_order.proofs.CountLemmas.{at_line}
use Rattle.vk_order.proofs.NewNodeLemmas.{first_before, before_there}
use Rattle.vk_order.specs.Inner.Tallies.{lines_of}
use Rattle.vk_order.proofs.new_node.NewNode.commands_before.Goals as goal

pub returns-clause-first : goal.returns-clause-first
returns-clause-first c = λ ns n m new_node there on.
    let line = OfCommands c.args.queue in
    let s = c.args.self.now in
    let count : c.counts_of_commands.result.clock ≡ clock_at (lines_of s.tallies.now) (clock_in s.front) line = ap (λ (d : Counts). d.clock) c.counts_of_commands.ensures ∙ sym (at_line (λ d. d.clock) refl (lines_of s.tallies.now) s.front.counts.items line) in
    first_before ns n (lines_of s.tallies.now) line s.front new_node.numbers new_node.front m there on ∙ ap (λ (i : ℕ). nat_lt (place ns line m.number) i) (sym count)

pub returns-clause-there : goal.returns-clause-there
returns-clause-there c = λ ns n new_node.
    let line = OfCommands c.args.queue in
    let s = c.args.self.now in
    let count : c.counts_of_commands.result.clock ≡ clock_at (lines_of s.tallies.now) (clock_in s.front) line = ap (λ (d : Counts). d.clock) c.counts_of_commands.ensures ∙ sym (at_line (λ d. d.clock) refl (lines_of s.tallies.now) s.front.counts.items line) in
    let le = before_there ns n (lines_of s.tallies.now) line s.front new_node.numbers new_node.front in
    omega arith
