use Rattle.std.proofs.Common.{◌≡◌, ◌∷◌, ℕ, List, Some, ap, sym, ◌∙◌, subst, rules}
use Rattle.std.specs.Prelude.{map}
use Rattle.std.specs.Option.{option_map}
use Rattle.vk_model.specs.declared.command.Element.{Element}
use Rattle.vk_model.specs.Trace.Point.{Point}
use Rattle.vk_model.specs.Sync.Node.{Node, Depends, Barrier}
use Rattle.vk_model.specs.Sync.Before.{IsNumbered}
use Rattle.vk_order.specs.declared.counts.Counts.{Counts}
use Rattle.vk_order.specs.declared.parts.Part.{Part}
use Rattle.vk_order.specs.declared.tallies.LineTally.{LineTally}
use Rattle.vk_model.specs.Trace.PointViews.{point_of}
use Rattle.vk_order.specs.NodeViews.{act_of}
use Rattle.vk_order.specs.Lines.{class_on}
use Rattle.vk_order.specs.Inner.Fronts.{clock_in, row_in}
use Rattle.vk_order.specs.Inner.Rows.{Available, IsMerged}
use Rattle.vk_order.specs.Inner.Tallies.{lines_of}
use Rattle.vk_order.specs.Limited.{part_of}
use Rattle.vk_order.proofs.PartLemmas.{part_new}
use Rattle.vk_order.proofs.frontier.Frontier.new_part.Goals as goal

-- what is said of two lists that are given as slices
of_lists : (ts us : List LineTally) (a x : List Counts) (own : List ℕ) → IsMerged (lines_of ts) (map (λ d. d.clock) a) (map (λ d. d.available) a) own → ts ≡ us → a ≡ x → IsMerged (lines_of us) (map (λ d. d.clock) x) (map (λ d. d.available) x) own
of_lists ts us a x own is d e = subst (λ (l : List LineTally). IsMerged (lines_of l) (map (λ d. d.clock) x) (map (λ d. d.available) x) own) d (subst (λ (m : List Counts). IsMerged (lines_of ts) (map (λ d. d.clock) m) (map (λ d. d.available) m) own) e is)

pub returns : goal.returns
returns c = λ ns n node front is.
    let row = c.args.row.now in
    let ts = c.args.self.now.tallies.items in
    let ls = lines_of ts in
    let e : Element = c.in-Some.element in
    let some : c.limited.result ≡ Some (c.in-Some.id, c.in-Some.element) = search rules in
    let act : n.act ≡ act_of row.act = ap (λ (m : Node). m.act) node in
    let point : n.point ≡ point_of row.point = ap (λ (m : Node). m.point) node in
    let named : part_of (act_of row.act) ≡ Some c.in-Some.id = sym c.limited.ensures.resource ∙ ap (option_map (λ (p : ℕ × Element). p.0)) some in
    let is_act : act_of row.act ≡ Depends Barrier e = c.in-Some.ensures.element in
    let numbers : IsNumbered (n ∷ ns) = (ap (λ (m : Node). m.number) node, is.numbers) in
    let x : Part = record { element = e; number = c.args.self.now.nodes; queue = row.point.queue; line = c.of-line.result; place = c.count.result; earlier = c.count-2.result; heard = c.in_ok-heard.heard } in (
      ap part_of act ∙ named,
      part_new ns n ls x c.in-Some.id (clock_in c.args.front.now) (row_in Available c.args.front.now) numbers (act ∙ is_act) (ap part_of (sym is_act) ∙ named) (is.total ∙ sym numbers.0) (sym (ap (λ (p : Point). p.queue) point))
          (c.of-line.ensures ∙ ap (λ (p : Point). class_on p.queue (act_of row.act)) (sym point) ∙ ap (class_on n.point.queue) (sym act)) (c.count.ensures ns is) (c.count-2.ensures ns is)
          (of_lists c.as_slice.result.now ts c.as_slice-2.result.now c.args.front.now.counts.items c.in_ok-heard.heard.items c.in_ok-heard.ensures c.as_slice.ensures.value c.as_slice-2.ensures.value)
          front.clock (front.rows Available),
    )
