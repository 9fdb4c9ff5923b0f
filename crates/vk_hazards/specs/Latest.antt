-- The latest node with which nodes are in hazard.
use Rattle.std.specs.Prelude.{◌≡◌, ◌<◌, ◌≤◌, ℕ, true, false, Option, Some, None, Contains}
use Rattle.vk_model.specs.Trace.Point.{Past}
use Rattle.vk_model.specs.World.Bytes.{Byte}
use Rattle.vk_model.specs.Sync.Node.{Node, nodes}
use Rattle.vk_model.specs.Sync.Before.{before}
use Rattle.vk_model.specs.Sync.Access.{precedes}
use Rattle.vk_order.specs.declared.bytes.Byte.{Byte as ProgramByte}
use Rattle.vk_order.specs.Bytes.{byte_of}
use Rattle.vk_hazards.specs.declared.hazards.Hazard.{Hazard}
use Rattle.vk_hazards.specs.declared.hazards.HazardFact.{HazardFact}
use Rattle.vk_hazards.specs.Areas.{IsNumbered}
use Rattle.vk_hazards.specs.Hazards.{in_hazard, node_at}

-- A byte at which a node is in hazard with an earlier one, or that there is none with a number.
abbrev pub IsFound : Past → Hazard → Node → Node → Option ProgramByte → Type 0
IsFound past h x y None = precedes x y ≡ true → (b : Byte) → IsNumbered b → in_hazard past h x y b ≡ false
IsFound past h x y (Some b) = (precedes x y ≡ true) × (in_hazard past h x y (byte_of b) ≡ true)

-- What is reported of a node: the latest one with which it is in hazard.
pub record IsFactOf (past : Past) (h : Hazard) (y : Node) (f : HazardFact) : Type 0 where
  pub hazard : f.hazard ≡ h
  pub earlier : Contains (nodes past) (node_at f.earlier)
  pub later : node_at f.later ≡ y
  pub found : IsFound past h (node_at f.earlier) y (Some f.byte)
  pub ordered : f.is_ordered ≡ before (nodes past) (node_at f.earlier) y
  pub latest : (x : Node) → Contains (nodes past) x → f.earlier.number < x.number → IsFound past h x y None

-- The latest node with which a node is in hazard, or that there is none.
abbrev pub IsLatest : Past → Hazard → Node → Option HazardFact → Type 0
IsLatest past h y None = (x : Node) → Contains (nodes past) x → IsFound past h x y None
IsLatest past h y (Some f) = IsFactOf past h y f

-- What is reported of the nodes with numbers from a low one on and below a high one: the latest node with which one of them is in hazard.
pub record IsBestFact (past : Past) (h : Hazard) (low high : ℕ) (f : HazardFact) : Type 0 where
  pub reported : (y : Node) × Contains (nodes past) y × (low ≤ y.number) × IsFactOf past h y f
  pub latest : (x y : Node) → Contains (nodes past) x → Contains (nodes past) y → low ≤ y.number → y.number < high → f.earlier.number < x.number → IsFound past h x y None

-- The same, or that none of them is in hazard.
abbrev pub IsBest : Past → Hazard → (low high : ℕ) → Option HazardFact → Type 0
IsBest past h low high None = (x y : Node) → Contains (nodes past) x → Contains (nodes past) y → low ≤ y.number → y.number < high → IsFound past h x y None
IsBest past h low high (Some f) = IsBestFact past h low high f
