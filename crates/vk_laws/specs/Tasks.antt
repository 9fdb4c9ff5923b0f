-- The tasks of a past: its commands' pieces, its host entries and its events, as the machine's accesses.
use Rattle.std.specs.Prelude.{◌≡◌, ℕ, List, [], length, Bool, false, ◌&&◌, ◌==◌, nat_lt, Option, Some, None, option_map, slice_get, if◌then◌else◌}
use Rattle.std.specs.List.{find}
use Rattle.vk_model.specs.declared.entry.Entry.{Entry}
use Rattle.vk_model.specs.declared.entry.Entry.TheVariants as entry
use Rattle.vk_model.specs.Basics.{holds}
use Rattle.vk_model.specs.World.Bytes.{Byte, same_byte}
use Rattle.vk_model.specs.Trace.Point.{Past}
use Rattle.vk_model.specs.World.ByteWrites.{Value, ByteWrite}
use Rattle.vk_model.specs.World.Effect.{written}
use Rattle.vk_model.specs.Sync.Node.{Node, Act, Hosts, Runs, nodes}
use Rattle.vk_model.specs.Sync.Before.{before}
use Rattle.vk_model.specs.Sync.Access.{is_in, origins, host_reads}
use Rattle.vk_model.specs.Run.Pieces.{pieces}
use Rattle.vk_model.specs.Rules.Table.{fault}
use Rattle.vk_laws.specs.Machine.{Task, Put, Puts, TraceAccesses, HazardFree, IsAllowed, MayRun}
use Rattle.vk_laws.specs.EveryOrder.{IsSettled}

-- The node of a number.
abbrev pub node_at : Past → ℕ → Option Node
node_at all k = find (λ n. n.number == k) (nodes all)

-- How many tasks an act has: a command one for each piece, any other one.
abbrev pub task_count : Past → Act → ℕ
task_count all (Runs c) = length (pieces all c)
task_count all _ = 1

-- The byte writes of a piece, if there is such a piece.
abbrev pub piece_writes : Option (List ByteWrite) → List ByteWrite
piece_writes None = []
piece_writes (Some ms) = ms

-- What the host writes to a byte by an entry (Vulkan, "Host Access to Device Memory Objects").
abbrev pub host_value : Entry → Byte → Option ℕ
host_value (entry.Write b o bytes) c = written b o bytes c
host_value _ c = None

-- What the task of index k of an act writes to a byte; an event writes nothing.
abbrev pub task_write : Past → Act → ℕ → Byte → Option Put
task_write all (Runs x) k c = option_map (λ m. Puts m.source) (find (λ m. same_byte m.to c) (piece_writes (slice_get (pieces all x) k)))
task_write all (Hosts x) k c = if k == 0 then option_map (λ v. Puts (Value v)) (host_value x c) else None
task_write all _ k c = None

-- Whether the task of index k of an act reads a byte.
abbrev pub task_read : Past → Act → ℕ → Byte → Bool
task_read all (Runs x) k c = is_in c (origins (piece_writes (slice_get (pieces all x) k)))
task_read all (Hosts x) k c = k == 0 && is_in c (host_reads x)
task_read all _ k c = false

-- What a node's act gives, if there is the node.
abbrev pub by_act : {A : Type 0} → A → (Act → A) → Option Node → A
by_act nothing f None = nothing
by_act nothing f (Some n) = f n.act

-- A past as the machine's accesses, with the order of its nodes (Vulkan, "Execution and Memory Dependencies").
abbrev pub accesses_of : Past → TraceAccesses
accesses_of all = record {
  has = λ t. by_act false (λ a. nat_lt t.index (task_count all a)) (node_at all t.node);
  write_of = λ t c. by_act None (λ a. task_write all a t.index c) (node_at all t.node);
  reads = λ t c. by_act false (λ a. task_read all a t.index c) (node_at all t.node);
  before = λ a b. holds (node_at all a) (λ m. holds (node_at all b) (λ n. before (nodes all) m n));
}

-- In every allowed run of the pieces, host entries and events of a past without a fault: when a piece or host entry may come next, of those whose accesses meet its own the earlier ones are done, and the later ones aren't.
abbrev pub TraceSettledLaw : Type 0
TraceSettledLaw =
    (all : Past) (done : List Task) (next : Task) → fault all ≡ None → IsAllowed (accesses_of all) done → MayRun (accesses_of all) done next
    → IsSettled (accesses_of all) done next

-- In a past without a fault conflicting accesses of different nodes are ordered, the pieces of one command don't meet, and what a piece copies it reads (Vulkan, "Execution and Memory Dependencies" and "Copy Commands", on overlapping regions).
abbrev pub TraceHazardFreeLaw : Type 0
TraceHazardFreeLaw = (all : Past) → fault all ≡ None → HazardFree (accesses_of all)
