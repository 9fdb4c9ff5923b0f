-- What is ordered: host entries, waits, signals, commands, and each element of a barrier, a set or an await.
use Rattle.std.specs.Prelude.{ℕ, List, [], ◌∷◌, map, length, Bool, ◌&&◌, ◌==◌, nat_le, reverse}
use Rattle.std.specs.List.{enumerate_from, filter}
use Rattle.vk_model.specs.declared.command.Cmd.{Cmd}
use Rattle.vk_model.specs.declared.command.Cmd.TheVariants as cmd
use Rattle.vk_model.specs.declared.command.Dependency.{Dependency}
use Rattle.vk_model.specs.declared.command.Element.{Element}
use Rattle.vk_model.specs.declared.command.Element.TheVariants as element
use Rattle.vk_model.specs.declared.entry.Entry.{Entry}
use Rattle.vk_model.specs.declared.entry.SemaphoreSubmit.{SemaphoreSubmit}
use Rattle.vk_model.specs.Trace.Point.{Past, Point, Action, Host, Wait, Run, Signal}

-- An element of a barrier, or the k-th one of an event's set or await (Vulkan, "Pipeline Barriers" and "Events").
pub data Role : Type 0 where
  Barrier : Role
  SetOf : (event k : ℕ) → Role
  AwaitOf : (event k : ℕ) → Role

-- What a node does. A set's or await's elements are dependencies on all memory (Vulkan, "Execution and Memory Dependencies").
pub data Act : Type 0 where
  Hosts : Entry → Act
  Waits : SemaphoreSubmit → Act
  Signals : SemaphoreSubmit → Act
  Runs : Cmd → Act
  Depends : Role → Element → Act

-- A node is known by its number, from 0 on, in reference order.
pub record Node : Type 0 where
  pub number : ℕ
  pub point : Point
  pub act : Act

-- The acts of an event's elements.
abbrev pub event_acts : (ℕ → Role) → List Dependency → List Act
event_acts role ms = map (λ p. Depends (role p.0) (element.Memory p.1)) (enumerate_from 0 ms)

-- The acts of a command: each element of a barrier, set or await is a dependency of its own (Vulkan, "Memory Barriers" and "Events"; that they don't chain: profile).
abbrev pub command_acts : Cmd → List Act
command_acts (cmd.Barrier es) = map (Depends Barrier) es
command_acts (cmd.Set v ms) = event_acts (SetOf v) ms
command_acts (cmd.Await v ms) = event_acts (AwaitOf v) ms
command_acts c = Runs c ∷ []

-- The acts of an action.
abbrev pub acts : Action → List Act
acts (Host x) = Hosts x ∷ []
acts (Wait s) = Waits s ∷ []
acts (Run c) = command_acts c
acts (Signal s) = Signals s ∷ []

-- The nodes when a point's acts have come, numbered on.
abbrev pub with_acts : Point → List Act → List Node → List Node
with_acts p [] ns = ns
with_acts p (a ∷ more) ns = with_acts p more (record { number = length ns; point = p; act = a } ∷ ns)

-- The nodes of a past, the newest first.
abbrev pub nodes : Past → List Node
nodes [] = []
nodes (p ∷ past) = with_acts p (acts p.action) (nodes past)

-- The nodes of a point that comes next, in their order.
abbrev pub next_nodes : Past → Point → List Node
next_nodes past p = reverse (filter (λ n. nat_le (length (nodes past)) n.number) (nodes (p ∷ past)))

-- Whether two nodes are the same one.
abbrev pub same_node : Node → Node → Bool
same_node m n = m.number == n.number

-- Whether two points of batches are in the same batch and place; what sets commands apart from waits and signals is their action.
abbrev pub same_place : Point → Point → Bool
same_place p q = p.entry == q.entry && p.batch == q.batch && p.place == q.place
