use Rattle.std.proofs.Common.{◌≡◌, ◌+◌, ◌≤◌, None}
use Rattle.std.specs.Prelude.{Contains}
use Rattle.vk_model.specs.Sync.Node.{Node, nodes}
use Rattle.vk_hazards.specs.Latest.{IsFound}
use Rattle.vk_hazards.proofs.past.Past.latest_with.Given as goal

abbrev pub invariant-loop-back : goal.invariant-loop-back
invariant-loop-back l = (x y : Node) → Contains (nodes l.self) x → Contains (nodes l.self) y → y.number ≡ l.later → l.later ≤ x.number + l.back → IsFound l.self l.hazard x y None
