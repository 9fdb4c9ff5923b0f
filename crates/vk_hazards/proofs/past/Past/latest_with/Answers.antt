use Rattle.std.proofs.Common.{◌≡◌, ◌+◌, ◌-◌, ◌<◌, ◌≤◌, List, Option, Some, ⊎_elim, sym, ap, ◌∙◌, subst, arith}
use Rattle.std.specs.Prelude.{Contains}
use Rattle.vk_model.specs.Sync.Node.{Node, nodes}
use Rattle.vk_model.specs.Sync.Before.{before}
use Rattle.vk_order.specs.declared.bytes.Byte.{Byte as ProgramByte}
use Rattle.vk_hazards.specs.declared.areas.Area.{Area}
use Rattle.vk_hazards.specs.Areas.{AreAreas}
use Rattle.vk_hazards.specs.Hazards.{later_bytes, node_at}
use Rattle.vk_hazards.specs.Latest.{IsFound}
use Rattle.vk_hazards.specs.Inner.Pairs.{IsPair}
use Rattle.vk_hazards.proofs.AlikeLemmas.{below_or_from}
use Rattle.vk_hazards.proofs.HazardLemmas.{not_earlier}
use Rattle.vk_hazards.proofs.RowNodes.{row_count, same_row, some_node}
use Rattle.vk_hazards.proofs.past.Past.latest_with.Goals as goal

pub index-requires : goal.index-requires
index-requires c = omega (arith, c.requires, row_count _ c.args.self.now c.self.inside.rows.items c.self.invariant.listed c.self.view_is, c.self.inside.rows.ok.0)

pub loop-back-init : goal.loop-back-init
loop-back-init c = λ x y cx cy is le. not_earlier c.args.self.now c.args.hazard x y (omega arith)

pub loop-back-preserved : goal.loop-back-preserved
loop-back-preserved c = λ x y cx cy is le.
    let past = c.args.self.now in
    let h = c.args.hazard in
    let rows = c.self.inside.rows.items in
    let is_y = same_row _ past rows c.self.invariant.listed c.self.view_is c.args.later c.index.result.now y c.requires c.index.ensures cy is in
    let areas : AreAreas c.as_slice.result.now (later_bytes past h y) =
    subst (λ (l : List Area). AreAreas l (later_bytes past h y)) (sym c.as_slice.ensures.value) (subst (λ (n : Node). AreAreas c.in_ok-areas.areas.items (later_bytes past h n)) is_y (c.in_ok-areas.ensures c.args.later)) in
    ⊎_elim
    (λ (late : x.number + c.loop-back.back < c.args.later).
    subst (λ (o : Option ProgramByte). IsFound past h x y o) c.in_default.is
    (c.in_ok-byte.ensures x y (record { earlier = cx; later = cy; earlier_number = omega (arith, c.loop-back-test.true); later_number = is }) areas))
    (λ (early : c.args.later ≤ x.number + c.loop-back.back). c.loop-back.invariant x y cx cy is early)
    (below_or_from (x.number + c.loop-back.back) c.args.later)

pub returns-in-Some : goal.returns-in-Some
returns-in-Some c = λ y cy is.
    let past = c.args.self.now in
    let h = c.args.hazard in
    let rows = c.self.inside.rows.items in
    let node = some_node _ past rows c.self.invariant.listed c.self.view_is (c.args.later - 1 - c.loop-back.back) (omega (arith, c.requires, c.loop-back-test.true)) in
    let is_y = same_row _ past rows c.self.invariant.listed c.self.view_is c.args.later c.index.result.now y c.requires c.index.ensures cy is in
    let areas : AreAreas c.as_slice.result.now (later_bytes past h y) =
    subst (λ (l : List Area). AreAreas l (later_bytes past h y)) (sym c.as_slice.ensures.value) (subst (λ (n : Node). AreAreas c.in_ok-areas.areas.items (later_bytes past h n)) is_y (c.in_ok-areas.ensures c.args.later)) in
    let pair : IsPair past (record { earlier = c.args.later - 1 - c.loop-back.back; later = c.args.later }) node.0 y = record { earlier = node.1; later = cy; earlier_number = node.2; later_number = is } in
    let reported = c.fact.ensures node.0 y pair in
    let found : IsFound past h node.0 y (Some c.in-Some.byte) = subst (λ (o : Option ProgramByte). IsFound past h node.0 y o) c.in-Some.is (c.in_ok-byte.ensures node.0 y pair areas) in
    let number : c.fact.result.earlier.number ≡ c.args.later - 1 - c.loop-back.back = ap (λ (n : Node). n.number) reported.earlier ∙ node.2 in
    record {
      hazard = reported.hazard;
      earlier = subst (λ (n : Node). Contains (nodes past) n) (sym reported.earlier) node.1;
      later = reported.later;
      found = subst (λ (b : ProgramByte). IsFound past h (node_at c.fact.result.earlier) y (Some b)) (sym reported.byte) (subst (λ (n : Node). IsFound past h n y (Some c.in-Some.byte)) (sym reported.earlier) found);
      ordered = reported.ordered ∙ ap (λ (n : Node). before (nodes past) n y) (sym reported.earlier);
      latest = λ z cz lt. c.loop-back.invariant z y cz cy is (omega (arith, number, c.loop-back-test.true));
    }
