-- The model's bytes before each node of a past, and what is visible of them to its tasks where queues and the host have no caches.
use Rattle.std.specs.Prelude.{◌≡◌, ℕ, suc, false, IsTrue, List, [], ◌∷◌, length, nat_le, Option, Some, None, if◌then◌else◌}
use Rattle.vk_model.specs.World.Bytes.{Byte}
use Rattle.vk_model.specs.Trace.Point.{Past}
use Rattle.vk_model.specs.Sync.Node.{nodes}
use Rattle.vk_model.specs.Sync.Edge.{is_host}
use Rattle.vk_model.specs.Basics.{holds}
use Rattle.vk_model.specs.World.Effect.{world}
use Rattle.vk_model.specs.Rules.Table.{fault}
use Rattle.vk_laws.specs.Machine.{Task, Reads, MayRun, IsModel, latest}
use Rattle.vk_model.specs.Run.Caches.{Cell, view}
use Rattle.vk_laws.specs.Caches.{Caching, Reached}
use Rattle.vk_laws.specs.Tasks.{node_at, accesses_of}

-- What has happened before node k: the points whose nodes all come earlier. A command's elements share what came before it, and take effect after the last of them (profile).
abbrev pub before_node : Past → ℕ → Past
before_node [] k = []
before_node (p ∷ past) k = if nat_le (length (nodes (p ∷ past))) k then p ∷ past else before_node past k

-- The value of a byte before node k, none where it's undefined: whole commands take effect one at a time, in reference order (profile).
abbrev pub value_before : Past → ℕ → Byte → Option ℕ
value_before all k c = (world (before_node all k)).value c

-- In a past without a fault these are a model of its tasks: what the pieces write gives the values after their command, and all else stays or becomes undefined (Vulkan, "Clear Commands", "Copy Commands" and "Resource Sharing Mode").
abbrev pub TraceModelLaw : Type 0
TraceModelLaw = (all : Past) → fault all ≡ None → IsModel (accesses_of all) (value_before all)

-- Without caches all queues and the host are one agent, to which everything is available and visible at once (profile).
abbrev pub uncached : Caching
uncached = record { agent = λ t. 0; makes_available = λ p w c. false; makes_visible = λ q a c. false }

-- In every allowed run of a past without a fault, without caches: what is visible, of each byte that it reads, to a piece or host entry that may come next is the model's value before its node, where the model defines one.
abbrev pub TraceFreshLaw : Type 0
TraceFreshLaw =
    (all : Past) (done : List Task) (cells : Byte → Cell) (next : Task) (c : Byte) (v : ℕ) → fault all ≡ None → Reached (accesses_of all) uncached done cells
    → MayRun (accesses_of all) done next → Reads (accesses_of all) next c → value_before all next.node c ≡ Some v → view 0 (cells c) ≡ v

-- And after any step a byte that was written has the model's value after the node of its last write, where the model defines one.
abbrev pub TraceWrittenLaw : Type 0
TraceWrittenLaw =
    (all : Past) (done : List Task) (cells : Byte → Cell) (writer : Task) (c : Byte) (v : ℕ) → fault all ≡ None → Reached (accesses_of all) uncached done cells
    → latest (accesses_of all) c done ≡ Some writer → value_before all (suc writer.node) c ≡ Some v → view 0 (cells c) ≡ v

-- In a past without a fault the model defines each byte that a host read reads (profile).
abbrev pub ReadsDefinedLaw : Type 0
ReadsDefinedLaw =
    (all : Past) (next : Task) (c : Byte) → fault all ≡ None → Reads (accesses_of all) next c → IsTrue (holds (node_at all next.node) (λ n. is_host n.act))
    → (v : ℕ) × (value_before all next.node c ≡ Some v)
