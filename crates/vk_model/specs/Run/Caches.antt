-- A byte of memory with what the caches in front of it hold: one of the host and one of each queue.
use Rattle.std.specs.Prelude.{ℕ, suc, ◌==◌, Option, Some, None, if◌then◌else◌}
use Rattle.vk_model.specs.Sync.Node.{Node}
use Rattle.vk_model.specs.Sync.Edge.{is_host}

-- What a cache holds of a byte: a copy, or a write that hasn't reached memory (Vulkan, "Execution and Memory Dependencies", on availability and visibility).
pub data Held : Type 0 where
  Clean : (value : ℕ) → Held
  Dirty : (value : ℕ) → Held

-- A byte in its region of memory, and what the cache of each agent, the host or a queue, holds of it.
pub record Cell : Type 0 where
  pub region : ℕ
  pub held : ℕ → Option Held

-- The host is agent 0, and queue k agent k + 1 (profile).
abbrev pub queue_agent : ℕ → ℕ
queue_agent k = suc k

-- The agent of a node.
abbrev pub agent_of : Node → ℕ
agent_of n = if is_host n.act then 0 else queue_agent n.point.queue

-- The value of a byte through a cache that holds this of it.
abbrev pub value_through : Option Held → ℕ → ℕ
value_through None region = region
value_through (Some (Clean value)) region = value
value_through (Some (Dirty value)) region = value

-- The byte as it is visible to an agent.
abbrev pub view : ℕ → Cell → ℕ
view a cell = value_through (cell.held a) cell.region

-- ---- what a cache does with a byte

-- The cache of an agent holds this of it from now on.
abbrev pub with_held : ℕ → Option Held → Cell → Cell
with_held a h cell = record cell { held = λ b. if b == a then h else cell.held b }

-- A dirty byte is written back: memory has its value, and the cache a copy (Vulkan, "Execution and Memory Dependencies", on availability operations).
abbrev pub written_back_if : ℕ → Option Held → Cell → Cell
written_back_if a (Some (Dirty v)) cell = record (with_held a (Some (Clean v)) cell) { region = v }
written_back_if a _ cell = cell

-- The same by what the cache holds.
abbrev pub written_back : ℕ → Cell → Cell
written_back a cell = written_back_if a (cell.held a) cell

-- A copy is dropped; what is dirty stays (Vulkan, "Execution and Memory Dependencies", on visibility operations).
abbrev pub dropped_if : ℕ → Option Held → Cell → Cell
dropped_if a (Some (Clean v)) cell = with_held a None cell
dropped_if a _ cell = cell

-- The same by what the cache holds.
abbrev pub dropped : ℕ → Cell → Cell
dropped a cell = dropped_if a (cell.held a) cell

-- A byte that isn't held is loaded: the cache has a copy (profile).
abbrev pub loaded_if : ℕ → Option Held → Cell → Cell
loaded_if a None cell = with_held a (Some (Clean cell.region)) cell
loaded_if a _ cell = cell

-- The same by what the cache holds.
abbrev pub loaded : ℕ → Cell → Cell
loaded a cell = loaded_if a (cell.held a) cell

-- Nothing is held of the byte any more; what was dirty is lost (Vulkan, "Host Access to Device Memory Objects", on `vkInvalidateMappedMemoryRanges`).
abbrev pub forgotten : ℕ → Cell → Cell
forgotten a cell = with_held a None cell

-- An agent with a cache writes a byte: the cache keeps it, and memory stays (profile).
abbrev pub with_write : ℕ → ℕ → Cell → Cell
with_write a v cell = with_held a (Some (Dirty v)) cell
