use Rattle.std.proofs.Common.{◌≡◌, ◌+◌, ℕ, refl, ap, sym, ◌∙◌, arith, rules}
use Rattle.std.specs.Prelude.{◌==◌, if◌then◌else◌, slice_index_or}
use Rattle.vk_order.specs.Lines.{place}
use Rattle.vk_order.specs.Inner.Counts.{zero_counts, with_clock}
use Rattle.vk_order.proofs.KeptLemmas.{its_line, no_line_of}
use Rattle.vk_order.proofs.OwnCounts.{counted_none, counted_line}
use Rattle.vk_order.proofs.owning.count_own.Goals as goal

pub returns-then-is_of_sets : goal.returns-then-is_of_sets
returns-then-is_of_sets c = λ ns ls n class found at few short.
    counted_none ns ls n c.args.counts.now.items c.args.counts.now.items (no_line_of n c.args.line class (sym c.is_of_sets.ensures ∙ c.if-is_of_sets.true)) refl short

pub returns : goal.returns
returns c = λ ns ls n class found at few short.
    let before = c.args.counts.now.items in
    let next : c.saturating_add.result ≡ place ns c.args.line n.number + 1 = omega (arith, c.saturating_add.ensures, at, few) in
    counted_line ns ls n before c.put_clock.new.all.items c.args.at c.args.line found (its_line n c.args.line class (sym c.is_of_sets.ensures ∙ c.if-is_of_sets.false))
    (λ i. c.in_ok-put_clock.ensures.counts i ∙ ap (λ (m : ℕ). if i == c.args.at then with_clock (slice_index_or before c.args.at zero_counts) m else slice_index_or before i zero_counts) next) (search rules) short
