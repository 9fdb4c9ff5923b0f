use Rattle.std.proofs.Common.{◌≡◌, ◌&&◌, List, ◌<◌, false, sym, ap, ◌∙◌, subst, arith}
use Rattle.vk_model.specs.Sync.Node.{Node}
use Rattle.vk_model.specs.Sync.Edge.{is_host}
use Rattle.vk_order.specs.NodeViews.{act_of}
use Rattle.vk_hazards.specs.declared.areas.Area.{Area}
use Rattle.vk_hazards.specs.Areas.{AreAreas}
use Rattle.vk_hazards.specs.Hazards.{earlier_bytes}
use Rattle.vk_hazards.proofs.RowNodes.{row_count, same_row}
use Rattle.vk_hazards.proofs.HazardLemmas.{found_of, precedes_from, both_of_host}
use Rattle.vk_hazards.proofs.past.Past.hazard_between.Goals as goal

pub index-requires : goal.index-requires
index-requires c = omega (arith, c.requires.order, c.requires.later, row_count _ c.args.self.now c.self.inside.rows.items c.self.invariant.listed c.self.view_is, c.self.inside.rows.ok.0)

pub index-requires-2 : goal.index-requires-2
index-requires-2 c = omega (arith, c.requires.order, c.requires.later, row_count _ c.args.self.now c.self.inside.rows.items c.self.invariant.listed c.self.view_is, c.self.inside.rows.ok.0)

pub returns-then-are_of_host : goal.returns-then-are_of_host
returns-then-are_of_host c = λ x y pair areas.
    let rows = c.self.inside.rows.items in
    let is_x = same_row _ c.args.self.now rows c.self.invariant.listed c.self.view_is c.args.pair.earlier c.index.result.now x (omega (arith, c.requires.order, c.requires.later)) c.index.ensures pair.earlier pair.earlier_number in
    let is_y = same_row _ c.args.self.now rows c.self.invariant.listed c.self.view_is c.args.pair.later c.index-2.result.now y c.requires.later c.index-2.ensures pair.later pair.later_number in
    both_of_host c.args.self.now c.args.hazard x y
    (ap (λ (n : Node). is_host n.act && is_host y.act) (sym is_x) ∙ ap (λ (n : Node). is_host (act_of c.index.result.now.act) && is_host n.act) (sym is_y) ∙ sym c.are_of_host.ensures ∙ c.if-are_of_host.true)

pub returns : goal.returns
returns c = λ x y pair areas.
    let past = c.args.self.now in
    let rows = c.self.inside.rows.items in
    let is_x = same_row _ past rows c.self.invariant.listed c.self.view_is c.args.pair.earlier c.index.result.now x (omega (arith, c.requires.order, c.requires.later)) c.index.ensures pair.earlier pair.earlier_number in
    let is_y = same_row _ past rows c.self.invariant.listed c.self.view_is c.args.pair.later c.index-2.result.now y c.requires.later c.index-2.ensures pair.later pair.later_number in
    let apart : (is_host x.act && is_host y.act) ≡ false =
    ap (λ (n : Node). is_host n.act && is_host y.act) (sym is_x) ∙ ap (λ (n : Node). is_host (act_of c.index.result.now.act) && is_host n.act) (sym is_y) ∙ sym c.are_of_host.ensures ∙ c.if-are_of_host.false in
    let lt : x.number < y.number = omega (arith, pair.earlier_number, pair.later_number, c.requires.order) in
    let own : AreAreas c.in_ok-own.own.items (earlier_bytes past c.args.hazard x) = subst (λ (n : Node). AreAreas c.in_ok-own.own.items (earlier_bytes past c.args.hazard n)) is_x (c.in_ok-own.ensures c.args.pair.earlier) in
    found_of past c.args.hazard x y c.as_slice.result.now c.args.areas.now (subst (λ (l : List Area). AreAreas l (earlier_bytes past c.args.hazard x)) (sym c.as_slice.ensures.value) own) areas
    (precedes_from past c.args.hazard x y lt apart) c.in_ok-found.found (c.in_ok-found.ensures x y pair)
