-- Laws of the definitions: what they say together.
use Rattle.std.specs.Prelude.{◌≡◌, ℕ, ◌<◌, ◌++◌, Bool, Contains, List, Some, None, IsTrue, ◌↔◌, false, nat_lt, slice_get, reverse}
use Rattle.vk_model.specs.declared.entry.Entry.{Entry}
use Rattle.vk_model.specs.declared.rule.At.{At}
use Rattle.vk_model.specs.declared.rule.Rule.{Rule}
use Rattle.vk_model.specs.Trace.Point.{Past, Point, Action, Wait, Run, at_of, entries}
use Rattle.vk_model.specs.World.Bytes.{Byte}
use Rattle.vk_model.specs.Trace.Order.{counter, plain_order, order}
use Rattle.vk_model.specs.Trace.Structure.{IsOrdered}
use Rattle.vk_model.specs.declared.rule.Rule.TheVariants as rule
use Rattle.vk_model.specs.Sync.Node.{Node, nodes}
use Rattle.vk_model.specs.Sync.Edge.{edge}
use Rattle.vk_model.specs.Sync.Before.{before, Path}
use Rattle.vk_model.specs.Sync.Seen.{Access, seen}
use Rattle.vk_model.specs.World.ByteWrites.{ByteWrite, byte_writes}
use Rattle.vk_model.specs.Sync.Access.{targets, share}
use Rattle.vk_model.specs.Basics.{holds, some_pair}
use Rattle.vk_model.specs.Run.Pieces.{pieces}
use Rattle.vk_model.specs.declared.command.Cmd.{Cmd}
use Rattle.std.specs.List.{flat_map}
use Rattle.vk_model.specs.Rules.Names.{rule_name}
use Rattle.vk_model.specs.Rules.Table.{breaks, rules, fault, first_fault}
use Rattle.vk_model.specs.Rules.Fault.{Comes, IsUnbroken, IsSound}

-- A past has no fault exactly where no point of it breaks any rule.
abbrev pub NoFaultIsUnbroken : Type 0
NoFaultIsUnbroken = (past : Past) → (fault past ≡ None) ↔ IsUnbroken past

-- So the first fault of a trace is none exactly where no point of it breaks any rule.
abbrev pub NoFaultIsSound : Type 0
NoFaultIsSound = (t : List Entry) → (first_fault t ≡ None) ↔ IsSound t

-- A point of a past is reported with a rule that it breaks; no earlier point breaks any, and the point breaks no earlier rule of the table.
pub record IsFirst (past : Past) (reported : At) (r : Rule) : Type 0 where
  pub before : Past
  pub point : Point
  pub comes : Comes past before point
  pub is_reported : at_of point ≡ reported
  pub broken : IsTrue (breaks r before point)
  pub earlier_points : (older : Past) (p : Point) (s : Rule) → Comes before older p → IsTrue (breaks s older p) → ⊥
  pub earlier_rules : (i j : ℕ) (s : Rule) → slice_get rules i ≡ Some s → slice_get rules j ≡ Some r → i < j → breaks s before point ≡ false

-- The fault of a past is first among its points, and first among the rules there.
abbrev pub FaultOfPastIsFirst : Type 0
FaultOfPastIsFirst = (past : Past) (reported : At) (r : Rule) → fault past ≡ Some (reported, r) → IsFirst past reported r

-- So is the first fault of a trace, in reference order.
abbrev pub FaultIsFirst : Type 0
FaultIsFirst = (t : List Entry) (reported : At) (r : Rule) → first_fault t ≡ Some (reported, r) → IsFirst (order t) reported r

-- Among the old nodes every edge, order and visibility is as it was when these were all.
pub record Keeps (old new : List Node) : Type 0 where
  pub added : (front : List Node) × (new ≡ front ++ old)
  pub edges : (m n : Node) → Contains old n → edge new m n ≡ edge old m n
  pub orders : (m n : Node) → Contains old n → before new m n ≡ before old m n
  pub visibilities : (cached : Byte → Bool) (w a : Node) (k : Access) (b : Byte) → Contains old a → seen cached new w a k b ≡ seen cached old w a k b

-- Points that come change no edge, no order and no visibility among the nodes that were there.
abbrev pub GrowthKeeps : Type 0
GrowthKeeps = (past more : Past) → Keeps (nodes past) (nodes (more ++ past))

-- Before is computed as it is defined: one node of a past is before another exactly where a path of edges leads to it.
abbrev pub BeforeIsPath : Type 0
BeforeIsPath = (past : Past) (x y : Node) → Contains (nodes past) x → Contains (nodes past) y → IsTrue (before (nodes past) x y) ↔ Path (nodes past) x y

-- What is before what is before a node is before it.
abbrev pub BeforeIsTransitive : Type 0
BeforeIsTransitive = (past : Past) (x y z : Node) → Contains (nodes past) x → Contains (nodes past) y → Contains (nodes past) z
    → IsTrue (before (nodes past) x y) → IsTrue (before (nodes past) y z) → IsTrue (before (nodes past) x z)

-- Before leads to later nodes alone, so never back.
abbrev pub BeforeLeadsOn : Type 0
BeforeLeadsOn = (ns : List Node) (x y : Node) → IsTrue (before ns x y) → x.number < y.number

-- Reference order is ordered: host entries one after another, and the points of batches after their submits, each queue's in the order of submission.
abbrev pub OrderIsOrdered : Type 0
OrderIsOrdered = (t : List Entry) → IsOrdered (order t)

-- So is the plain order.
abbrev pub PlainOrderIsOrdered : Type 0
PlainOrderIsOrdered = (t : List Entry) → IsOrdered (plain_order t)

-- The host entries of reference order are the entries of the trace.
abbrev pub OrderHasEntries : Type 0
OrderHasEntries = (t : List Entry) → entries (order t) ≡ reverse t

-- Entries that come add points, and change none.
abbrev pub OrderGrows : Type 0
OrderGrows = (t more : List Entry) → (newer : Past) × (order (t ++ more) ≡ newer ++ order t)

-- No two points of an ordered past are reported alike.
abbrev pub PointsComeOnce : Type 0
PointsComeOnce = (past before : Past) (p q : Point) → IsOrdered past → Comes past before p → Contains before q → at_of q ≡ at_of p → ⊥

-- Whether a batch waits for a value above the counter (Vulkan, "Semaphore Waiting").
abbrev pub is_ahead : Past → Action → Bool
is_ahead past (Wait w) = holds (counter past w.semaphore) (λ c. nat_lt c w.value)
is_ahead past _ = false

-- No wait of the trace is ahead of its signal: at its place in the plain order the counter has reached its value, or its id is no semaphore's.
abbrev pub NeverAhead : List Entry → Type 0
NeverAhead t = (before : Past) (p : Point) → Comes (plain_order t) before p → is_ahead before p.action ≡ false

-- Then every batch is started right after its submit, and reference order is the plain order.
abbrev pub OrdersAgree : Type 0
OrdersAgree = (t : List Entry) → NeverAhead t → order t ≡ plain_order t

-- Lists put one after the other.
abbrev pub together : {A : Type 0} → List (List A) → List A
together lists = flat_map (λ list. list) lists

-- The pieces of a command, put together, are its byte writes.
abbrev pub PiecesAreByteWrites : Type 0
PiecesAreByteWrites = (past : Past) (c : Cmd) → together (pieces past c) ≡ byte_writes past c

-- Whether two pieces write a common byte.
abbrev pub write_common : List ByteWrite → List ByteWrite → Bool
write_common p q = share (targets p) (targets q)

-- No two pieces of a command write one byte where it breaks neither OVERLAP nor RANGE; no other rule is needed.
abbrev pub PiecesWriteApart : Type 0
PiecesWriteApart = (past : Past) (p : Point) (c : Cmd) → p.action ≡ Run c → breaks rule.Overlap past p ≡ false → breaks rule.Range past p ≡ false
    → some_pair write_common (pieces past c) ≡ false

-- Rules that are printed alike are the same rule.
abbrev pub NamesDiffer : Type 0
NamesDiffer = (r s : Rule) → rule_name r ≡ rule_name s → r ≡ s

-- A rule has one place in the table.
pub record HasOnePlace (r : Rule) : Type 0 where
  pub place : ℕ
  pub here : slice_get rules place ≡ Some r
  pub only : (k : ℕ) → slice_get rules k ≡ Some r → k ≡ place

-- Each rule is in the table just once.
abbrev pub TableIsWhole : Type 0
TableIsWhole = (r : Rule) → HasOnePlace r
