use Rattle.std.proofs.Common.{◌≡◌, ℕ, ◌<◌, ◌≤◌, List, Some, sym, ap, ◌∙◌, subst, arith}
use Rattle.std.specs.Prelude.{slice_get}
use Rattle.std.proofs.lemmas.Option.{slice_get_within}
use Rattle.vk_model.specs.Sync.Node.{Node, Act}
use Rattle.vk_model.specs.World.Bytes.{in_buffer}
use Rattle.vk_order.specs.declared.acts.Row.{Row}
use Rattle.vk_order.specs.NodeViews.{act_of}
use Rattle.vk_hazards.specs.Inner.Pairs.{IsAlike}
use Rattle.vk_hazards.proofs.RowNodes.{of_node, one_more}
use Rattle.vk_hazards.proofs.past.Past.alike_until.Goals as goal

pub loop-row-preserved : goal.loop-row-preserved
loop-row-preserved c =
    let inv = c.loop-row.invariant in
    let new = c.alike_until-end.ensures in
    let P = λ (q : Row). (k : ℕ) → c.args.at ≤ k → k < c.alike_until-end.result → IsAlike (act_of q.act) (in_buffer c.args.buffer k) (in_buffer c.args.buffer c.args.at) in
    record {
      further = new.further;
      within = omega (arith, new.within, inv.within);
      alike = one_more P c.deref-row-items.result.now c.loop-row.row-index c.row-item.result c.loop-row-test.true c.row-item.is
          (λ j r lt at k le high. inv.alike j r lt at k le (omega (arith, new.within))) new.alike;
    }

pub returns-clause-alike : goal.returns-clause-alike
returns-clause-alike c = λ k le lt n there.
    let rows = c.self.inside.rows.items in
    let of = of_node _ c.args.self.now rows c.self.invariant.listed c.self.view_is n there in
    let here : slice_get c.deref-row-items.result.now n.number ≡ Some of.0 = ap (λ (l : List Row). slice_get l n.number) c.deref-row-items.ensures.value ∙ of.1 in
    let within = slice_get_within c.deref-row-items.result.now n.number of.0 here in
    subst (λ (a : Act). IsAlike a (in_buffer c.args.buffer k) (in_buffer c.args.buffer c.args.at)) (sym (ap (λ (m : Node). m.act) of.2))
    (c.loop-row.invariant.alike n.number of.0 (omega (arith, within)) here k le lt)
