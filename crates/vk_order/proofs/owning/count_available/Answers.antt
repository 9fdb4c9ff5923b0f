use Rattle.std.proofs.Common.{◌≡◌, Option, Some, None, refl, ap, sym, ◌∙◌, get_or, rules}
use Rattle.std.proofs.lemmas.Option.{slice_get-get_or}
use Rattle.vk_model.specs.Basics.{holds}
use Rattle.vk_order.specs.declared.lines.Line.{Line}
use Rattle.vk_order.specs.declared.tallies.LineTally.{LineTally}
use Rattle.vk_order.specs.NodeViews.{act_of}
use Rattle.vk_order.specs.Lines.{same_line}
use Rattle.vk_order.proofs.OwnLemmas.{index_low, available_counted, available_none, available_as_well}
use Rattle.vk_order.proofs.owning.count_available.Goals as goal

pub returns-in_default : goal.returns-in_default
returns-in_default c = λ ns tallied short.
    let none : c.available_line.result ≡ None = search rules in
    available_as_well ns c.args.tallies.now tallied c.args.row.now.point.queue (act_of c.args.row.now.act) c.args.counts.now.items c.args.counts.now.items
    (λ l. ap (λ (o : Option Line). holds o (same_line l)) (sym none) ∙ c.available_line.ensures l) refl short

pub returns-in_default-line_index : goal.returns-in_default-line_index
returns-in_default-line_index c = λ ns tallied short.
    let some : c.available_line.result ≡ Some c.in-Some.line = search rules in
    available_none ns c.args.tallies.now tallied c.args.row.now.point.queue (act_of c.args.row.now.act) c.args.counts.now.items c.args.counts.now.items c.in-Some.line
    (λ l. ap (λ (o : Option Line). holds o (same_line l)) (sym some) ∙ c.available_line.ensures l) (sym c.in_default-line_index.ensures) refl short

pub returns : goal.returns
returns c = λ ns tallied short.
    let ts = c.args.tallies.now in
    let at = c.in-Some-line_index.at in
    let t : LineTally = get_or ts at c.index-tallies-at.result in
    let some : c.available_line.result ≡ Some c.in-Some.line = search rules in
    available_counted ns ts tallied c.args.row.now.point.queue (act_of c.args.row.now.act) c.args.counts.now.items c.put_available.new.all.items c.in-Some.line at t.count t
    (λ l. ap (λ (o : Option Line). holds o (same_line l)) (sym some) ∙ c.available_line.ensures l) (sym c.in-Some-line_index.ensures)
    (slice_get-get_or ts at c.index-tallies-at.result (index_low ts c.in-Some.line at (sym c.in-Some-line_index.ensures))) refl
    (λ i. c.in_ok-put_available.ensures.counts i) (search rules) short
