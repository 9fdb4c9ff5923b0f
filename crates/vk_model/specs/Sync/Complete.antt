-- Which submitted commands the host knows to be complete.
use Rattle.std.specs.Prelude.{ℕ, List, [], ◌∷◌, ◌++◌, length, Bool, not, ◌&&◌, nat_lt, Option, Some, None}
use Rattle.std.specs.List.{list_any, list_all, flat_map, filter}
use Rattle.vk_model.specs.declared.entry.Entry.{Entry}
use Rattle.vk_model.specs.Basics.{among, option_list}
use Rattle.vk_model.specs.Trace.Point.{Past, Point, Action, Run, host_of}
use Rattle.vk_model.specs.Trace.Objects.{live_resources}
use Rattle.vk_model.specs.Trace.Order.{batches_of, actions}
use Rattle.vk_model.specs.World.Ownership.{uses, named_by}
use Rattle.vk_model.specs.Sync.Node.{Node, Act, Depends, Runs, nodes, next_nodes, acts, same_place}
use Rattle.vk_model.specs.Sync.Before.{before}

-- The points of the commands that entry e submits, if it does (Vulkan, "Queue Submission").
abbrev pub commands_of : Past → ℕ → Option Entry → List Point
commands_of past e None = []
commands_of past e (Some x) = flat_map (λ t. actions Run t 0 t.content.commands []) (batches_of past e x)

-- The points of all submitted commands, those of batches that still wait too (Vulkan, "Queue Submission").
abbrev pub submitted : Past → List Point
submitted [] = []
submitted (p ∷ past) = commands_of past p.entry (host_of p.action) ++ submitted past

-- The resources that a node names; a dependency on all memory names none (Vulkan, "Memory Barriers").
abbrev pub named_by_act : Act → List ℕ
named_by_act (Runs c) = uses c
named_by_act (Depends r e) = option_list (named_by e)
named_by_act _ = []

-- Whether an action names a resource.
abbrev pub names : ℕ → Action → Bool
names r d = list_any (λ a. among r (named_by_act a)) (acts d)

-- The nodes of the command at point p that name resource r; none while its batch waits.
abbrev pub nodes_for : List Node → Point → ℕ → List Node
nodes_for ns p r = filter (λ m. same_place m.point p && among r (named_by_act m.act)) ns

-- Whether the command at point p is known complete, for resource r, at node n: it was started, and all its nodes that name the resource come before n (profile, after Vulkan, "Execution and Memory Dependencies").
abbrev pub is_complete : List Node → Node → Point → ℕ → Bool
is_complete ns n p r = nat_lt 0 (length (nodes_for ns p r)) && list_all (λ m. before ns m n) (nodes_for ns p r)

-- Whether a submitted command that names resource r isn't known complete at node n.
abbrev pub is_busy : Past → List Node → Node → ℕ → Bool
is_busy past ns n r = list_any (λ p. names r p.action && not (is_complete ns n p r)) (submitted past)

-- Whether one of the live resources that pass the test is busy at a point that comes next.
abbrev pub some_busy : Past → Point → (ℕ → Bool) → Bool
some_busy past p test = list_any (λ n. list_any (λ r. test r && is_busy past (nodes (p ∷ past)) n r) (live_resources past)) (next_nodes past p)
