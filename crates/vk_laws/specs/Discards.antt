-- Host writes that an invalidation forgets, as writes of the machine.
use Rattle.std.specs.Prelude.{◌≡◌, ℕ, None, Bool, true, false, ◌&&◌, ◌==◌, Option, Some}
use Rattle.vk_model.specs.declared.entry.Entry.{Entry}
use Rattle.vk_model.specs.declared.entry.Entry.TheVariants as entry
use Rattle.vk_model.specs.World.Bytes.{Byte}
use Rattle.vk_model.specs.Trace.Objects.{is_cached}
use Rattle.vk_model.specs.Trace.Point.{Past}
use Rattle.vk_model.specs.Rules.Table.{fault}
use Rattle.vk_model.specs.Sync.Node.{Act, Hosts}
use Rattle.vk_model.specs.World.Effect.{reaches, world}
use Rattle.vk_laws.specs.Machine.{Put, Unknown, TraceAccesses, HazardFree, IsModel}
use Rattle.vk_laws.specs.Tasks.{by_act, node_at, accesses_of}
use Rattle.vk_laws.specs.TraceBytes.{before_node, value_before}

-- Whether an entry forgets what the host wrote to a byte: an invalidation of cached memory, and the byte was written and not flushed since (Vulkan, "Host Access to Device Memory Objects", on `vkInvalidateMappedMemoryRanges`).
abbrev pub entry_forgets : Past → Entry → Byte → Bool
entry_forgets past (entry.Invalidate b o n) c = is_cached past b && (reaches b o n c && (world past).dirty c)
entry_forgets past _ c = false

-- Whether the act of node k does.
abbrev pub forgets : Past → ℕ → Act → Byte → Bool
forgets all k (Hosts x) c = entry_forgets (before_node all k) x c
forgets all k _ c = false

-- A forgotten byte holds an unknown value then.
abbrev pub or_unknown : Bool → Option Put → Option Put
or_unknown true w = Some Unknown
or_unknown false w = w

-- A past as the machine's accesses, in which an invalidation may leave anything in the bytes that it forgets (Vulkan, "Host Access to Device Memory Objects").
abbrev pub with_discards : Past → TraceAccesses
with_discards all = record {
  has = (accesses_of all).has;
  write_of = λ t c. or_unknown (t.index == 0 && by_act false (λ a. forgets all t.node a c) (node_at all t.node)) ((accesses_of all).write_of t c);
  reads = (accesses_of all).reads;
  before = (accesses_of all).before;
}

-- In a past without a fault all accesses are in order with the invalidations that forget bytes, too (Vulkan, "Host Access to Device Memory Objects").
abbrev pub DiscardsHazardFreeLaw : Type 0
DiscardsHazardFreeLaw = (all : Past) → fault all ≡ None → HazardFree (with_discards all)

-- And the model has no value for what is forgotten (Vulkan, "Host Access to Device Memory Objects").
abbrev pub DiscardsModelLaw : Type 0
DiscardsModelLaw = (all : Past) → fault all ≡ None → IsModel (with_discards all) (value_before all)
