use Rattle.std.proofs.Common.{◌+◌, ◌++◌, List, refl, sym, ap, ◌∙◌, map, drop}
use Rattle.vk_order.specs.declared.acts.Row.{Row}
use Rattle.vk_model.specs.Trace.PointViews.{point_of}
use Rattle.vk_order.specs.NodeViews.{act_of, nodes_after}
use Rattle.vk_model.specs.Sync.Node.{with_acts}
use Rattle.vk_order.proofs.RowLemmas.{rows-step, row_acts-step, row_push}
use Rattle.vk_order.proofs.rows.rows_of.Goals as goal

pub loop-act-preserved : goal.loop-act-preserved
loop-act-preserved c =
    let acts = c.deref-act-items.result.now in
    let k = c.loop-act.act-index in
    let old = c.loop-act.rows.items in
    let r : Row = record { point = c.args.point; act = c.act-item.result } in
    record {
      points = λ i x e. row_push c.args.point old r c.loop-act.invariant.points refl i x (sym (ap (λ (l : List Row). Rattle.std.specs.Prelude.slice_get l i) c.in_ok-push.ensures.items) ∙ e);
      acts = ap (λ (l : List Row). map (λ (x : Row). act_of x.act) l ++ map act_of (drop (k + 1) acts)) c.in_ok-push.ensures.items ∙ row_acts-step acts k c.act-item.result old r c.loop-act-test.true c.act-item.is ∙ c.loop-act.invariant.acts;
      nodes = λ ns. ap (λ (l : List Row). with_acts (point_of c.args.point) (map act_of (drop (k + 1) acts)) (nodes_after ns l)) c.in_ok-push.ensures.items
          ∙ rows-step (point_of c.args.point) acts k c.act-item.result ns old r c.loop-act-test.true refl c.act-item.is ∙ c.loop-act.invariant.nodes ns;
    }
