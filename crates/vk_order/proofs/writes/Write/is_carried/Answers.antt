use Rattle.std.proofs.Common.{◌≡◌, ◌&&◌, ◌<◌, Some, ℕ, ⊎_elim, refl, ap, sym, ◌∙◌, length, get_or, false, arith, rules}
use Rattle.std.specs.Prelude.{slice_get, slice_index_or, nat_lt}
use Rattle.std.proofs.lemmas.Bool.{cases_lt}
use Rattle.std.proofs.lemmas.List.Elements.{Contains-get_or}
use Rattle.std.proofs.lemmas.Option.{slice_get_read, slice_get-get_or}
use Rattle.vk_order.specs.declared.acts.Row.{Row}
use Rattle.vk_order.specs.NodeViews.{act_of, node_of}
use Rattle.vk_order.specs.Edges.{unsignaled}
use Rattle.vk_order.specs.Inner.Availability.{makes_write_available, is_set_element}
use Rattle.vk_order.proofs.AvailabilityLemmas.{some_carried, none_carried, not_after_sets}
use Rattle.vk_order.proofs.writes.Write.is_carried.Goals as goal
use Rattle.vk_model.proofs.Lists.Items.{some_same}

pub returns-then-not-comes_after_sets : goal.returns-then-not-comes_after_sets
returns-then-not-comes_after_sets c = λ has.
    let off : c.comes_after_sets.result ≡ false = search rules in
    sym (not_after_sets c.args.rows.now (makes_write_available c.args.self.now) c.args.number c.args.row.now (sym c.comes_after_sets.ensures ∙ off))

pub offset_bounds-rows-set : goal.offset_bounds-rows-set
offset_bounds-rows-set c =
    let lt : slice_index_or c.args.sets.now c.loop-set.set-index 0 < length c.args.rows.now = c.requires (get_or c.args.sets.now c.loop-set.set-index 0) (Contains-get_or c.args.sets.now c.loop-set.set-index 0 c.loop-set-test.true) in
    search rules

pub bounds-rows-set : goal.bounds-rows-set
bounds-rows-set c = c.requires (get_or c.args.sets.now c.loop-set.set-index 0) (Contains-get_or c.args.sets.now c.loop-set.set-index 0 c.loop-set-test.true)

pub returns-then-is_carried_by : goal.returns-then-is_carried_by
returns-then-is_carried_by c = λ has.
    let rows = c.args.rows.now in
    let k = get_or c.args.sets.now c.loop-set.set-index 0 in
    let row = c.index-rows-set.result in
    let lt : get_or c.args.sets.now c.loop-set.set-index 0 < length rows = c.requires k (Contains-get_or c.args.sets.now c.loop-set.set-index 0 c.loop-set-test.true) in
    let at : slice_get rows k ≡ Some row = slice_get_read rows (length rows) k row refl lt c.index-rows-set.is in
    sym (some_carried rows (makes_write_available c.args.self.now) c.args.number c.args.row.now k row at (sym c.is_carried_by.ensures ∙ c.if-is_carried_by.true))

pub loop-set-preserved : goal.loop-set-preserved
loop-set-preserved c = λ i j x lt e at_x. ⊎_elim
    (λ low. c.loop-set.invariant i j x low e at_x)
    (λ high.
    let rows = c.args.rows.now in
    let sets = c.args.sets.now in
    let n = c.loop-set.set-index in
    let k : ℕ = get_or sets n 0 in
    let row = c.index-rows-set.result in
    let low : k < length rows = c.requires k (Contains-get_or sets n 0 c.loop-set-test.true) in
    let at : slice_get rows k ≡ Some row = slice_get_read rows (length rows) k row refl low c.index-rows-set.is in
    let same : i ≡ n = omega arith in
    let is : k ≡ j = some_same k j (sym (slice_get-get_or sets n 0 c.loop-set-test.true) ∙ ap (slice_get sets) (sym same) ∙ e) in
    let one : row ≡ x = some_same row x (sym at ∙ ap (slice_get rows) is ∙ at_x) in
    ap (λ (y : Row). is_set_element (act_of y.act) && makes_write_available c.args.self.now (node_of j y) && (nat_lt j c.args.number && unsignaled (node_of j y) (node_of c.args.number c.args.row.now))) (sym one)
    ∙ ap (λ (m : ℕ). is_set_element (act_of row.act) && makes_write_available c.args.self.now (node_of m row) && (nat_lt m c.args.number && unsignaled (node_of m row) (node_of c.args.number c.args.row.now))) (sym is)
    ∙ sym c.is_carried_by.ensures ∙ c.if-is_carried_by.false)
    (cases_lt i c.loop-set.set-index)

pub returns : goal.returns
returns c = λ has. sym (none_carried c.args.rows.now (makes_write_available c.args.self.now) c.args.number c.args.row.now c.args.sets.now has
    (λ j x there at.
    let at_i : slice_get c.args.sets.now there.0 ≡ Some j = slice_get-get_or c.args.sets.now there.0 j there.1 ∙ ap Some there.2 in
    c.loop-set.invariant there.0 j x (let a = there.1 in let b = c.loop-set-test.false in omega arith) at_i at))
