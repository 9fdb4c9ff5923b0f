use Rattle.std.proofs.Common.{◌≡◌, [], Bool, Some, true, false, ⊎_elim, not, refl, ap, sym, ◌∙◌}
use Rattle.vk_model.proofs.Lists.Truths.{no, clash, unless, bool_same}
use Rattle.vk_order.specs.declared.acts.Row.{Row}
use Rattle.vk_order.specs.NodeViews.{node_of, nodes_after}
use Rattle.vk_order.specs.Inner.Availability.{makes_write_available, is_marked, is_after}
use Rattle.vk_order.proofs.NamedLemmas.{node_there}
use Rattle.vk_order.proofs.AfterLemmas.{marked_after, first_after, after_found, first_before}
use Rattle.vk_order.proofs.seen.is_available_before.Goals as goal
use Rattle.vk_model.proofs.Lists.Items.{some_same}

pub returns-then-is_marked_by : goal.returns-then-is_marked_by
returns-then-is_marked_by c = λ quiet are kept at.
    let rows = c.args.rows.now in
    let n = node_of c.args.number c.args.row.now in
    let on : c.is_marked_by.result ≡ true = c.if-is_marked_by.true in
    on ∙ sym (marked_after rows (makes_write_available c.args.write.now) n (node_there rows c.args.number c.args.row.now at) (sym (c.is_marked_by.ensures quiet) ∙ on))

pub returns-else-is_marked_by : goal.returns-else-is_marked_by
returns-else-is_marked_by c = λ quiet are kept at.
    let rows = c.args.rows.now in
    let all = nodes_after [] rows in
    let r = c.args.row.now in
    let n = node_of c.args.number r in
    let test = makes_write_available c.args.write.now in
    let there = node_there rows c.args.number r at in
    let unmarked : is_marked all test n ≡ false = sym (c.is_marked_by.ensures quiet) ∙ c.if-is_marked_by.false in
    bool_same c.is_after_some.result (is_after all test n)
    (λ e. let found = c.is_after_some.ensures.yes e rows (is_marked all test) r are at kept in
    let first = are.each found.0 found.2 in
    let same : first.0 ≡ found.1 = some_same first.0 found.1 (sym first.1 ∙ found.3) in
    first_after rows test (node_of found.0.number found.1) n (node_there rows found.0.number found.1 found.3) there (ap (λ (x : Row). is_marked all test (node_of found.0.number x)) (sym same) ∙ first.3) found.4)
    (λ h. unless c.is_after_some.result (λ off. ⊎_elim
    (λ m. clash m unmarked)
    (λ m. let first = first_before rows c.args.stamps.now c.args.lines.now kept (is_marked all test) c.args.firsts.now are c.args.number r at m.0 m.1.0 m.1.1 m.1.2 m.1.3 in
    clash first.4 (c.is_after_some.ensures.no (not_true c.is_after_some.result off) rows (is_marked all test) r are at kept first.0 first.1 first.2 first.3))
    (after_found rows test n there h)))
  where
    not_true : (b : Bool) → not b ≡ true → b ≡ false
    not_true true e = no e
    not_true false e = refl
