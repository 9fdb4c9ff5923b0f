use Rattle.std.proofs.Common.{◌≡◌, ◌++◌, ℕ, List, Some, map, drop}
use Rattle.std.specs.Prelude.{slice_get}
use Rattle.vk_model.specs.Sync.Node.{Node, with_acts}
use Rattle.vk_order.specs.declared.acts.Row.{Row}
use Rattle.vk_model.specs.Trace.PointViews.{point_of}
use Rattle.vk_order.specs.NodeViews.{act_of, nodes_after}
use Rattle.vk_order.proofs.rows.rows_of.Given as goal

abbrev pub invariant-loop-act : goal.invariant-loop-act
invariant-loop-act l = record {
  points : (i : ℕ) (r : Row) → slice_get l.rows.items i ≡ Some r → r.point ≡ l.point;
  acts : map (λ r. act_of r.act) l.rows.items ++ map act_of (drop l.act-index l.act-items) ≡ map act_of l.act-items;
  nodes : (ns : List Node) → with_acts (point_of l.point) (map act_of (drop l.act-index l.act-items)) (nodes_after ns l.rows.items) ≡ with_acts (point_of l.point) (map act_of l.act-items) ns;
}
