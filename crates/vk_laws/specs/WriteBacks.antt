-- What a dependency or signal writes back, told by which commands have started: for a device that keeps no writer of each byte.
use Rattle.std.specs.Prelude.{◌≡◌, ℕ, List, Bool, true, false, not, ◌&&◌, nat_lt, if◌then◌else◌, None, Some}
use Rattle.std.specs.List.{fold, list_any}
use Rattle.vk_model.specs.declared.entry.Entry.{Entry}
use Rattle.vk_model.specs.Basics.{holds}
use Rattle.vk_model.specs.World.Bytes.{Byte}
use Rattle.vk_model.specs.World.ByteWrites.{byte_writes}
use Rattle.vk_model.specs.Trace.Point.{Past}
use Rattle.vk_model.specs.Sync.Node.{Node, Act, Runs, nodes}
use Rattle.vk_model.specs.Sync.Edge.{transfer_stage, first_scope, scopes_meet}
use Rattle.vk_model.specs.Sync.Seen.{makes_writes_available}
use Rattle.vk_model.specs.Rules.Table.{first_fault}
use Rattle.vk_model.specs.Run.Caches.{queue_agent, written_back, dropped}
use Rattle.vk_model.specs.Run.Runs.{Name, Step, Stage}
use Rattle.vk_model.specs.Run.CachedRuns.{Cells, numbered, write_to, makes_byte_visible, happening, after_step, CachedStep, Does, CachedStage, CachedNext}
use Rattle.vk_laws.specs.CachedRuns.{CachedRunOf}

-- Whether the first scope of a node has commands of its queue (Vulkan, "Execution and Memory Dependencies", on synchronization scopes).
abbrev pub follows_commands : Act → Bool
follows_commands a = scopes_meet (Some transfer_stage) (first_scope a)

-- Whether a node makes available what earlier commands of its queue wrote of a byte (Vulkan, "Execution and Memory Dependencies" and "Semaphore Signaling").
abbrev pub frees_byte : Past → Node → Byte → Bool
frees_byte past n c = follows_commands n.act && makes_writes_available (λ b. false) (nodes past) n c n.act

-- Whether an act is a command that writes a byte.
abbrev pub act_writes : Past → Byte → Act → Bool
act_writes past c (Runs x) = holds (write_to c (byte_writes past x)) (λ m. true)
act_writes past c _ = false

-- Whether a command that comes after a node in reference order, and of which a piece has run, writes a byte.
abbrev pub is_overtaken : Past → List Name → Node → Byte → Bool
is_overtaken past done n c = list_any (λ y. nat_lt n.number y.0 && holds (numbered past y.0) (λ m. act_writes past c m.act)) done

-- A byte when a node happens, told so: what the cache of its queue holds dirty is written back where the node makes earlier writes available, unless a later command that has started writes the byte; and it is dropped where the node makes it visible.
abbrev pub after_node_by_starts : Past → List Name → Node → Cells → Cells
after_node_by_starts past done n cells c =
    let a = queue_agent n.point.queue in
    let back = if frees_byte past n c && not (is_overtaken past done n c) then written_back a (cells c) else cells c in
    if makes_byte_visible past n c then dropped a back else back

-- The bytes when all have happened that happen from one stage to the next.
abbrev pub after_nodes_by_starts : Stage → Stage → Cells → Cells
after_nodes_by_starts s e cells = fold (λ cs n. after_node_by_starts e.front.past e.done n cs) cells (happening s e)

-- In a run of a trace without a fault that is what happens: it needs no writer of each byte, since what a cache holds dirty was written by the latest of the commands that have started (Vulkan, "Execution and Memory Dependencies", on availability operations).
abbrev pub NodesGoByStarts : Type 0
NodesGoByStarts =
    (t : List Entry) (region : Byte → ℕ) (steps : List CachedStep) (s e : CachedStage) (step : Step) (moved : List ℕ) → CachedRunOf t region steps s → first_fault t ≡ None → CachedNext s (Does step moved) e
    → e.cells ≡ after_nodes_by_starts s.stage e.stage (after_step s.stage step moved s.cells)
