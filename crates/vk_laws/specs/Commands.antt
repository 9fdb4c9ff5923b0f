-- Whole commands one at a time, and the tasks that they are cut into.
use Rattle.std.specs.Prelude.{◌≡◌, ℕ, zero, suc, Bool, Option, Some, None, if◌then◌else◌}
use Rattle.vk_model.specs.World.Bytes.{Byte}
use Rattle.vk_laws.specs.Machine.{Task, Put, TraceAccesses, put_value}

-- What a node does to bytes: it makes some undefined, and then writes (Vulkan, "Clear Commands", "Copy Commands" and "Resource Sharing Mode").
pub record Effects : Type 0 where
  pub loses : ℕ → Byte → Bool
  pub writes : ℕ → Byte → Option Put

-- The values when node n has made undefined what it loses.
abbrev pub left_by : Effects → ℕ → (Byte → Option ℕ) → Byte → Option ℕ
left_by fx n values c = if fx.loses n c then None else values c

-- The value of a byte after this write to it, if there is one.
abbrev pub set_by : Option Put → (Byte → Option ℕ) → Byte → Option ℕ
set_by None values c = values c
set_by (Some x) values c = put_value x values

-- The bytes before node n: whole commands take effect one at a time, each at once (profile).
abbrev pub meaning : Effects → ℕ → Byte → Option ℕ
meaning fx zero c = None
meaning fx (suc n) c = set_by (fx.writes n c) (left_by fx n (meaning fx n)) c

-- The tasks of a node write what the node writes, all of it and nothing else.
pub record IsCut (fx : Effects) (tr : TraceAccesses) : Type 0 where
  pub within : (t : Task) (c : Byte) (x : Put) → tr.write_of t c ≡ Some x → fx.writes t.node c ≡ Some x
  pub covered : (n : ℕ) (c : Byte) (x : Put) → fx.writes n c ≡ Some x → (t : Task) × (t.node ≡ n) × (tr.write_of t c ≡ Some x)
