-- What acts and nodes of the code mean.
use Rattle.std.specs.Prelude.{ℕ, List, [], ◌∷◌, length}
use Rattle.vk_model.specs.declared.command.Element.TheVariants as element
use Rattle.vk_model.specs.Trace.PointViews.{point_of}
use Rattle.vk_model.specs.Sync.Node as sync
use Rattle.vk_order.specs.declared.act.Act.{Act}
use Rattle.vk_order.specs.declared.act.Act.TheVariants as act
use Rattle.vk_order.specs.declared.acts.Row.{Row}

-- The act of the definitions.
abbrev pub act_of : Act → sync.Act
act_of (act.Hosts x) = sync.Hosts x.now
act_of (act.Waits s) = sync.Waits s.now
act_of (act.Signals s) = sync.Signals s.now
act_of (act.Runs c) = sync.Runs c.now
act_of (act.Barrier e) = sync.Depends sync.Barrier e.now
act_of (act.Set v k d) = sync.Depends (sync.SetOf v k) (element.Memory d.now)
act_of (act.Await v k d) = sync.Depends (sync.AwaitOf v k) (element.Memory d.now)

-- The node of a row, with its number.
abbrev pub node_of : ℕ → Row → sync.Node
node_of i r = record { number = i; point = point_of r.point; act = act_of r.act }

-- The nodes when rows have come, the newest first.
abbrev pub nodes_after : List sync.Node → List Row → List sync.Node
nodes_after ns [] = ns
nodes_after ns (r ∷ rs) = nodes_after (node_of (length ns) r ∷ ns) rs
