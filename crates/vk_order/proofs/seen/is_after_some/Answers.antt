use Rattle.std.proofs.Common.{◌≡◌, [], Some, false, ⊎_elim, ap, sym, ◌∙◌, get_or, arith}
use Rattle.std.specs.Prelude.{slice_get}
use Rattle.std.proofs.lemmas.Bool.{cases_lt}
use Rattle.std.proofs.lemmas.List.Elements.{Contains-get_or}
use Rattle.std.proofs.lemmas.Option.{slice_get-get_or}
use Rattle.vk_model.specs.Sync.Before.{before}
use Rattle.vk_order.specs.declared.acts.Row.{Row}
use Rattle.vk_order.specs.declared.lines.Line.TheVariants.{Host as OfHost}
use Rattle.vk_order.specs.declared.writes.First.{First}
use Rattle.vk_order.specs.NodeViews.{node_of, nodes_after}
use Rattle.vk_order.proofs.seen.is_after_some.Goals as goal
use Rattle.vk_model.proofs.Lists.Items.{some_same}

abbrev none : First
none = record { line = OfHost; number = 0 }

pub is_counted-requires-clause-first : goal.is_counted-requires-clause-first
is_counted-requires-clause-first c = c.requires.within (get_or c.args.firsts.now c.loop-first.first-index none) (Contains-get_or c.args.firsts.now c.loop-first.first-index none c.loop-first-test.true)

pub returns-then-is_counted-clause-yes : goal.returns-then-is_counted-clause-yes
returns-then-is_counted-clause-yes c = λ on rows test r are at kept.
    let f : First = get_or c.args.firsts.now c.loop-first.first-index none in
    let has = Contains-get_or c.args.firsts.now c.loop-first.first-index none c.loop-first-test.true in
    let each = are.each f has in
    (f, each.0, has, each.1, sym (c.is_counted.ensures rows each.0 r each.1 at each.2 kept) ∙ c.if-is_counted.true)

pub loop-first-preserved : goal.loop-first-preserved
loop-first-preserved c = λ rows test r are at kept i f x lt e at_f. ⊎_elim
    (λ low. c.loop-first.invariant rows test r are at kept i f x low e at_f)
    (λ high.
    let k = c.loop-first.first-index in
    let same : i ≡ k = omega arith in
    let own : First = get_or c.args.firsts.now k none in
    let has = Contains-get_or c.args.firsts.now k none c.loop-first-test.true in
    let is : own ≡ f = some_same own f (sym (slice_get-get_or c.args.firsts.now k none c.loop-first-test.true) ∙ ap (slice_get c.args.firsts.now) (sym same) ∙ e) in
    let each = are.each own has in
    let off : before (nodes_after [] rows) (node_of own.number each.0) (node_of c.args.number r) ≡ false = sym (c.is_counted.ensures rows each.0 r each.1 at each.2 kept) ∙ c.if-is_counted.false in
    let row : each.0 ≡ x = some_same each.0 x (sym each.1 ∙ ap (λ (f : First). slice_get rows f.number) is ∙ at_f) in
    ap (λ (g : First). before (nodes_after [] rows) (node_of g.number x) (node_of c.args.number r)) (sym is) ∙ ap (λ (y : Row). before (nodes_after [] rows) (node_of own.number y) (node_of c.args.number r)) (sym row) ∙ off)
    (cases_lt i c.loop-first.first-index)

pub returns-clause-no : goal.returns-clause-no
returns-clause-no c = λ off rows test r are at kept f x has at_f.
    let at_i : slice_get c.args.firsts.now has.0 ≡ Some f = slice_get-get_or c.args.firsts.now has.0 f has.1 ∙ ap Some has.2 in
    c.loop-first.invariant rows test r are at kept has.0 f x (let a = has.1 in let b = c.loop-first-test.false in omega arith) at_i at_f
