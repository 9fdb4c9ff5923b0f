-- Hazards between two nodes.
use Rattle.std.specs.Prelude.{◌≡◌, Bool, true, false, List, Option, Some, None, Contains}
use Rattle.vk_model.specs.Trace.Point.{Past}
use Rattle.vk_model.specs.World.Bytes.{Byte}
use Rattle.vk_model.specs.Sync.Node.{Node, Act, Depends, nodes}
use Rattle.vk_model.specs.Sync.Before.{before}
use Rattle.vk_model.specs.Sync.Seen.{covers, flushes, invalidates}
use Rattle.vk_order.specs.declared.bytes.Byte.{Byte as ProgramByte}
use Rattle.vk_order.specs.Bytes.{byte_of}
use Rattle.vk_hazards.specs.declared.hazards.Hazard.{Hazard}
use Rattle.vk_hazards.specs.declared.hazards.HazardFact.{HazardFact}
use Rattle.vk_hazards.specs.declared.pairs.Pair.{Pair}
use Rattle.vk_hazards.specs.Hazards.{is_missing, node_at}

-- The two nodes of a pair.
pub record IsPair (past : Past) (pair : Pair) (x y : Node) : Type 0 where
  pub earlier : Contains (nodes past) x
  pub later : Contains (nodes past) y
  pub earlier_number : x.number ≡ pair.earlier
  pub later_number : y.number ≡ pair.later

-- ---- bytes alike

-- Whether an act is a dependency on a byte.
abbrev pub is_on : Act → Byte → Bool
is_on (Depends r e) b = covers e b
is_on _ b = false

-- An act does the same with two bytes.
pub record IsAlike (a : Act) (b c : Byte) : Type 0 where
  pub covered : is_on a b ≡ is_on a c
  pub flushed : flushes a b ≡ flushes a c
  pub invalidated : invalidates a b ≡ invalidates a c

-- All nodes do.
abbrev pub AreAlike : List Node → Byte → Byte → Type 0
AreAlike ns b c = (n : Node) → Contains ns n → IsAlike n.act b c

-- ---- what is found

-- Of the bytes that two areas have, one at which something is missing, or that there is none.
abbrev pub IsMissed : Past → Hazard → Node → Node → (Byte → Bool) → Option ProgramByte → Type 0
IsMissed past h x y among None = (b : Byte) → among b ≡ true → is_missing past h x y b ≡ false
IsMissed past h x y among (Some b) = (among (byte_of b) ≡ true) × (is_missing past h x y (byte_of b) ≡ true)

-- ---- what is reported

-- What is reported of two nodes and a byte.
pub record IsReported (past : Past) (h : Hazard) (x y : Node) (b : ProgramByte) (f : HazardFact) : Type 0 where
  pub hazard : f.hazard ≡ h
  pub earlier : node_at f.earlier ≡ x
  pub later : node_at f.later ≡ y
  pub byte : f.byte ≡ b
  pub ordered : f.is_ordered ≡ before (nodes past) x y
