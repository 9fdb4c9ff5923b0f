-- Dependencies on parts of memory, each with what is known at it; and what they give an access that comes next.
use Rattle.std.specs.Prelude.{◌≡◌, ◌⊎◌, ◌<◌, ◌≤◌, ◌∷◌, ◌&&◌, ℕ, Bool, false, List, [], Option, Some, None, length, slice_get, IsTrue, Contains}
use Rattle.std.specs.Ordering.{nat_cmp}
use Rattle.std.specs.BTreeMap.{get}
use Rattle.std.specs.Option.{option_map_or}
use Rattle.vk_model.specs.World.Bytes.{Byte}
use Rattle.vk_model.specs.Sync.Node.{Node, Act, Hosts, Runs, Depends, Barrier}
use Rattle.vk_model.specs.Sync.Edge.{edge}
use Rattle.vk_model.specs.Sync.Before.{before}
use Rattle.vk_model.specs.Sync.Seen.{Access, makes_writes_visible, command_mask, host_mask, to_host}
use Rattle.vk_order.specs.declared.lines.Line.{Line}
use Rattle.vk_order.specs.declared.lines.Line.TheVariants.{Commands as OfCommands}
use Rattle.vk_order.specs.declared.parts.Part.{Part}
use Rattle.vk_order.specs.declared.parts.Parts.{Parts}
use Rattle.vk_order.specs.Lines.{line_of, place}
use Rattle.vk_order.specs.Limited.{is_limited, part_of, Reaches}
use Rattle.vk_order.specs.Inner.Kept.{clock_at}
use Rattle.vk_order.specs.Inner.Rows.{Knowledge, Available, Visible, OnHost, IsKnownRow, KnowsOne}

-- What is kept of node m, a dependency on a part of memory.
pub record IsPart (ns : List Node) (ls : List Line) (m : Node) (x : Part) : Type 0 where
  pub there : Contains ns m
  pub act : m.act ≡ Depends Barrier x.element
  pub limited : IsTrue (is_limited m.act)
  pub number : x.number ≡ m.number
  pub queue : x.queue ≡ m.point.queue
  pub line : line_of m ≡ Some x.line
  pub at : x.place ≡ place ns x.line m.number
  pub earlier : x.earlier ≡ place ns (OfCommands x.queue) m.number
  pub heard : IsKnownRow ns m (clock_at ls x.heard.items)
  pub short : length x.heard.items ≤ length ls

-- The parts that are kept of a resource.
abbrev pub parts_at : Parts → ℕ → List Part
parts_at p id = option_map_or (λ v. v.items) (get nat_cmp p.by_resource id) []

-- Parts are in the order of their nodes.
abbrev pub AreInOrder : List Part → Type 0
AreInOrder xs = (i j : ℕ) (x y : Part) → i < j → slice_get xs i ≡ Some x → slice_get xs j ≡ Some y → x.number ≤ y.number

-- Some of the parts, and among them all of nodes from a number on.
pub record AreFrom (number : ℕ) (all some : List Part) : Type 0 where
  pub within : (x : Part) → Contains some x → Contains all x
  pub newer : (x : Part) → Contains all x → number ≤ x.number → Contains some x

-- The first so many parts are of nodes below a number.
abbrev pub AreBelow : ℕ → List Part → ℕ → Type 0
AreBelow number xs count = (i : ℕ) (x : Part) → i < count → slice_get xs i ≡ Some x → x.number < number

-- Of each resource those of all nodes are kept.
pub record AreParts (ns : List Node) (ls : List Line) (p : Parts) : Type 0 where
  pub ordered : (id : ℕ) → AreInOrder (parts_at p id)
  pub each : (id : ℕ) (x : Part) → Contains (parts_at p id) x → (m : Node) × IsPart ns ls m x
  pub all : (id : ℕ) (m : Node) → Contains ns m → part_of m.act ≡ Some id → (x : Part) × Contains (parts_at p id) x × IsPart ns ls m x

-- Node n comes next, as row, with what comes before it: it is the dependency on a part of the resource, or on none.
abbrev pub IsNewPart : List Node → List Line → Node → Option (ℕ × Part) → Type 0
IsNewPart ns ls n None = part_of n.act ≡ None
IsNewPart ns ls n (Some p) = (part_of n.act ≡ Some p.0) × IsPart (n ∷ ns) ls n p.1

-- What an access by an act asks of nodes before it.
abbrev pub asked_of : Act → Access → Knowledge
asked_of (Runs c) k = Visible k
asked_of (Hosts x) k = OnHost k
asked_of _ k = Available

-- Whether node q makes available writes of a byte visible to an access by node n, whose act is given and which comes next.
abbrev pub opens : (Byte → Bool) → List Node → Node → Act → Access → Byte → Node → Bool
opens cached ns n (Runs c) k b q = edge ns q n && makes_writes_visible cached ns (command_mask k) b q q.act
opens cached ns n (Hosts x) k b q = before (n ∷ ns) q n && (to_host q.act && makes_writes_visible cached ns (host_mask k) b q q.act)
opens cached ns n _ k b q = false

-- What node m marks is known at a node that makes it visible to an access of a byte by node n, which comes next.
abbrev pub Serves : (Byte → Bool) → List Node → Node → Access → Byte → Node → Type 0
Serves cached ns n k b m = KnowsOne (asked_of n.act k) ns (λ q. edge ns q n) m ⊎ ((q : Node) × Contains ns q × IsTrue (is_limited q.act) × IsTrue (opens cached ns n n.act k b q) × Reaches ns m q)
