-- What is asked of points.
use Rattle.std.specs.Prelude.{◌≡◌, ℕ, List, map, reverse, false, IsTrue, Contains}
use Rattle.std.specs.List.{filter}
use Rattle.vk_model.specs.declared.command.Cmd.{Cmd}
use Rattle.vk_model.specs.Trace.Point.{Point, Run}
use Rattle.vk_model.specs.Sync.Node.{Node, same_place}
use Rattle.vk_model.specs.Sync.Edge.{edge, is_element}

-- The numbers of the nodes to which node m leads by one edge, in order (Vulkan, "Execution and Memory Dependencies").
abbrev pub led_to : List Node → Node → List ℕ
led_to ns m = reverse (map (λ n. n.number) (filter (λ n. edge ns m n) ns))

-- Where a point is a command, no node is an element of it yet: in reference order no two commands are at one place (profile).
abbrev pub IsNew : Point → List Node → Type 0
IsNew p ns = (c : Cmd) → p.action ≡ Run c → (m : Node) → Contains ns m → IsTrue (is_element m.act) → same_place m.point p ≡ false
