use Rattle.std.proofs.Common.{◌≡◌, ◌+◌, ◌-◌, ◌^◌, ◌<◌, Some, refl, ap, sym, ◌∙◌, length}
use Rattle.std.specs.Prelude.{min, slice_get, if◌then◌else◌}
use Rattle.std.proofs.lemmas.Option.{slice_get_read}
use Rattle.std.proofs.Math.Seq.{map-set_same}
use Rattle.vk_order.specs.declared.tallies.LineTally.{LineTally}
use Rattle.vk_order.specs.declared.lines.Line.{Line}
use Rattle.vk_order.specs.NodeViews.{act_of}
use Rattle.vk_order.specs.Lines.{class_on, is_of_sets}
use Rattle.vk_order.specs.Inner.Tallies.{lines_of}
use Rattle.vk_order.proofs.OwnLemmas.{index_low}
use Rattle.vk_order.proofs.TallyLemmas.{line_there, tallied_more}
use Rattle.vk_order.proofs.tallies.tally.Goals.{then-is_of_sets, else-is_of_sets}
use Rattle.vk_order.proofs.tallies.tally.Goals as goal

pub returns-clause-lines : goal.returns-clause-lines
returns-clause-lines c =
    let t : LineTally = c.index_mut-tally.result.now in
    let u : LineTally = record { line = t.line; count = c.if-is_of_sets.count; front = c.grow.new.self } in
    map-set_same (λ (x : LineTally). x.line) c.args.tallies.now.items c.args.at u t (ap (λ (x : LineTally). x.line) c.index_mut-tally.ensures.value)

pub returns-clause-kept : goal.returns-clause-kept
returns-clause-kept c = λ ns n row known found coming tallied is_own.
    let ts = c.args.tallies.now.items in
    let at = c.args.at in
    let line : Line = class_on row.point.queue (act_of row.act) in
    let t : LineTally = c.index_mut-tally.result.now in
    let u : LineTally = record { line = t.line; count = c.if-is_of_sets.count; front = c.grow.new.self } in
    let low : at < length ts = index_low ts line at found in
    let here : slice_get ts at ≡ Some t = slice_get_read ts (length ts) at t refl low c.index_mut-tally.ensures.value in
    let line_is : t.line ≡ line = line_there ts line at t found here in
    let count : u.count ≡ (if is_of_sets t.line then t.count else min (t.count + 1) (2 ^ 32 - 1)) =
    elim c.if-is_of_sets.branch [
      | then-is_of_sets w ↦ w.count-is ∙ sym (rw (sym c.is_of_sets.ensures ∙ w.if-is_of_sets.true) refl)
      | else-is_of_sets w ↦ w.count-is ∙ w.saturating_add-count.ensures ∙ sym (rw (sym c.is_of_sets.ensures ∙ w.if-is_of_sets.false) refl)
    ] in
    tallied_more ns ts n row known c.args.own.now coming tallied at found t u here line_is
    (λ test passes whole is. c.in_ok-grow.ensures ns (lines_of ts) test n coming.numbers passes whole is is_own)
    (count ∙ ap (λ (l : Line). if is_of_sets l then t.count else min (t.count + 1) (2 ^ 32 - 1)) line_is)
