-- Edges but by semaphores, and which nodes make a write available or visible.
use Rattle.std.specs.Prelude.{ℕ, Bool, false, ◌&&◌, ◌||◌, [], nat_lt}
use Rattle.vk_model.specs.World.Bytes.{Byte}
use Rattle.vk_model.specs.Sync.Node.{Node, Act, Hosts, Runs, Depends, same_node}
use Rattle.vk_model.specs.Sync.Edge.{by_host, by_stages, by_signal, by_all_commands, pairs, is_submit}
use Rattle.vk_model.specs.Sync.Seen.{makes_writes_available, makes_writes_visible}

-- Whether one node leads to a later one by an edge of any kind but by a semaphore (Vulkan, "Execution and Memory Dependencies").
abbrev pub unsignaled : Node → Node → Bool
unsignaled m n = by_host m n || by_stages m n || by_signal m n || by_all_commands m n || pairs m.act n.act

-- Whether a node makes commands' writes of a byte available (Vulkan, "Execution and Memory Dependencies" and "Semaphore Signaling").
abbrev pub makes_available : Byte → Node → Bool
makes_available b p = makes_writes_available (λ c. false) [] p b p.act

-- Whether an element makes available writes of a byte visible to accesses under a mask (Vulkan, "Execution and Memory Dependencies").
abbrev pub makes_visible : ℕ → Byte → Node → Bool
makes_visible mask b q = makes_writes_visible (λ c. false) [] mask b q q.act

-- Whether node p makes a write of a byte by node w, whose act is given, available: a host's are the submits after node `from`.
abbrev pub made_available_by : Node → Act → ℕ → Byte → Node → Bool
made_available_by w (Runs c) from b p = nat_lt w.number p.number && unsignaled w p && makes_available b p
made_available_by w (Depends r e) from b p = same_node w p
made_available_by w (Hosts x) from b p = is_submit p.act && nat_lt from p.number
made_available_by w _ from b p = false
