use Rattle.std.proofs.Common.{◌≡◌, Some, false, ap, sym, ◌∙◌}
use Rattle.vk_order.specs.NodeViews.{act_of}
use Rattle.vk_order.specs.Lines.{is_of_sets}
use Rattle.vk_order.proofs.ClockLemmas.{line_same}
use Rattle.vk_order.proofs.AvailabilityLemmas.{lined}
use Rattle.vk_order.proofs.writes.Write.first_at.Goals as goal

pub returns-then-is_listed-clause-none : goal.returns-then-is_listed-clause-none
returns-then-is_listed-clause-none c = λ none quiet marked plain.
    let row = c.args.row.now in
    let off : is_of_sets c.of-line.result ≡ false = sym c.is_of_sets.ensures ∙ c.if-is_of_sets.false in
    let found = c.is_listed.ensures c.if-is_listed.true in
    let same = line_same found.0.line c.of-line.result found.2 in
    (found.0, found.1, lined row.point.queue (act_of row.act) (ap is_of_sets (sym c.of-line.ensures) ∙ off) ∙ ap Some (sym c.of-line.ensures) ∙ ap Some (sym same))
