-- Which bytes of resources memory is behind by, as late bytes that are kept by resources.
use Rattle.std.specs.Prelude.{◌≡◌, ℕ, List, Option, Some, None}
use Rattle.vk_model.specs.World.Bytes.{Byte, resource_at}
use Rattle.vk_model.specs.World.ByteWrites.{ByteWrite}
use Rattle.vk_model.specs.Sync.Node.{Node}
use Rattle.vk_laws.specs.DirectRuns.{HostMemory}
use Rattle.vk_cache_laws.specs.LateRuns.{LateByte, Late, late_after_piece}
use Rattle.vk_resources.specs.declared.stretches.Written.{Written}
use Rattle.vk_resources.specs.Held.{Held, byte_at}
use Rattle.vk_resources.specs.Stretches.{HasWrites, place_at}
use Rattle.vk_lag.specs.declared.late.Late as kept
use Rattle.vk_lag.specs.declared.late.Writer.{Writer}
use Rattle.vk_lag.specs.Lags.{Lags, late_at}

-- A late byte, by the node of the command that wrote it (Vulkan, "Execution and Memory Dependencies", on availability operations).
abbrev pub late_byte : Option kept.Late → Option LateByte
late_byte None = None
late_byte (Some l) = Some (record { queue = l.writer.queue; node = l.writer.node; value = l.value })

-- Of each byte of a resource that lies somewhere memory is behind by it as it is kept, by its place in the resource (Vulkan, "Resource Memory Association").
abbrev pub AreLate : Held → Lags → Late → Type 0
AreLate s lags late = (c : Byte) (k : ℕ) → place_at s c ≡ Some k → late c ≡ late_byte (late_at lags (resource_at c) k)

-- The bytes of resources that lie somewhere have these values where they lie: their newest ones.
abbrev pub HasValues : Held → HostMemory → Type 0
HasValues s m = (c : Byte) (k : ℕ) → place_at s c ≡ Some k → m.region c ≡ byte_at s c

-- A writer is the command of a node.
pub record IsOfNode (w : Writer) (n : Node) : Type 0 where
  pub queue : w.queue ≡ n.point.queue
  pub node : w.node ≡ n.number

-- Memory becomes behind by what a piece of a node's command is about to write, and by nothing else.
abbrev pub BecomesBehind : Held → Lags → Lags → Written → Writer → Type 0
BecomesBehind s old new written w =
    (ms : List ByteWrite) (m : HostMemory) (late : Late) (n : Node) → HasWrites s ms written → HasValues s m → IsOfNode w n → AreLate s old late
    → AreLate s new (late_after_piece n ms m late)
