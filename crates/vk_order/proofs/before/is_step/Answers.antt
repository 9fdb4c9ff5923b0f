use Rattle.std.proofs.Common.{◌≡◌, Some, true, false, refl, sym, ap, ◌∙◌, rules}
use Rattle.std.specs.Prelude.{◌==◌}
use Rattle.std.proofs.lemmas.Option.{get_or_from_slice_get}
use Rattle.vk_order.specs.declared.acts.Row.{Row}
use Rattle.vk_order.specs.NodeViews.{act_of, node_of}
use Rattle.vk_order.specs.Lines.{line_of, class_on}
use Rattle.vk_order.specs.Edges.{unsignaled}
use Rattle.vk_order.proofs.SetLemmas.{set_to_line}
use Rattle.vk_order.proofs.before.is_step.Goals as goal

pub returns : goal.returns
returns c = λ q x r at at_k at_n set kept.
    let rows = c.args.rows.now in
    let from : c.index-rows-first.result ≡ q = c.index-rows-first.is ∙ get_or_from_slice_get rows c.args.first q c.index-rows-first.result at in
    let to : c.index-rows-middle.result ≡ x = c.index-rows-middle.is ∙ get_or_from_slice_get rows c.args.middle x c.index-rows-middle.result at_k in
    let on : c.leads_to-leads.result ≡ true = search rules in
    let leads : unsignaled (node_of c.args.first q) (node_of c.args.middle x) ≡ true =
    ap (λ (y : Row). unsignaled (node_of 0 y) (node_of 0 x)) (sym from) ∙ ap (λ (y : Row). unsignaled (node_of 0 c.index-rows-first.result) (node_of 0 y)) (sym to) ∙ sym c.leads_to-leads.ensures ∙ on in
    let line : line_of (node_of c.args.middle x) ≡ Some c.of-line.result =
    set_to_line (node_of c.args.first q) (node_of c.args.middle x) set leads ∙ ap (λ (y : Row). Some (class_on y.point.queue (act_of y.act))) (sym to) ∙ ap Some (sym c.of-line.ensures) in
    let other : (c.args.middle == c.args.second) ≡ false = search rules in
    c.is_counted.ensures rows x r at_k at_n line kept ∙ sym (rw (leads, other) refl)
