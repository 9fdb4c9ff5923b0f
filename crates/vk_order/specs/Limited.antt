-- What is seen through dependencies on parts of memory too: buffers' ranges and images' subresources.
use Rattle.std.specs.Prelude.{◌≡◌, ◌⊎◌, ◌↔◌, ◌∷◌, ℕ, List, Option, None, Bool, not, ◌&&◌, false, IsTrue, Contains}
use Rattle.vk_model.specs.World.Bytes.{Byte}
use Rattle.vk_model.specs.World.Ownership.{named_by}
use Rattle.vk_model.specs.Sync.Node.{Node, Act, Depends}
use Rattle.vk_model.specs.Sync.Edge.{edge, is_host, is_command, is_element}
use Rattle.vk_model.specs.Sync.Before.{before, IsNumbered}
use Rattle.vk_model.specs.Sync.Seen.{Access, seen, makes_writes_available, makes_writes_visible, command_mask, host_mask, needs_invalidation, to_host}
use Rattle.vk_order.specs.Wide.{is_wide}
use Rattle.vk_order.specs.Inner.Rows.{Visible, OnHost, IsKnown, KnowsOne}

-- Whether an act is a dependency on a part of memory (Vulkan, "Buffer Memory Barriers" and "Image Memory Barriers").
abbrev pub is_limited : Act → Bool
is_limited a = not (is_wide a)

-- The resource that a dependency is on, where it is on a part of memory.
abbrev pub part_of : Act → Option ℕ
part_of (Depends r e) = named_by e
part_of _ = None

-- Node m marks a write of a byte by node w: it is w, or a dependency on a part of memory that makes the write of command w available.
abbrev pub IsMark : (Byte → Bool) → List Node → Byte → Node → Node → Type 0
IsMark cached ns b w m = (m ≡ w) ⊎ (IsTrue (is_command w.act) × Contains ns m × IsTrue (is_limited m.act) × IsTrue (makes_writes_available cached ns m b m.act) × IsTrue (edge ns w m))

-- What it marks is known at node q: available to all by then, or m is a dependency on a part of memory that comes before q or is q.
abbrev pub Reaches : List Node → Node → Node → Type 0
Reaches ns m q = IsKnown ns m q ⊎ ((m ≡ q) × IsTrue (is_limited m.act))

-- A write by a node that may write: a command's, a transition's, or a host entry's of a byte that the host reaches without a cache.
pub record IsWrite (cached : Byte → Bool) (ns : List Node) (w : Node) (b : Byte) : Type 0 where
  pub there : Contains ns w
  pub uncached : (is_host w.act && cached b) ≡ false
  pub limited : (is_element w.act && is_wide w.act) ≡ false

-- A command that comes next sees a write exactly where it is known at a node that leads to the command by an edge and makes it visible: one that serves all memory, or a dependency on a part.
abbrev pub SeenByCommand : List Node → Node → (Byte → Bool) → Node → Access → Byte → Type 0
SeenByCommand ns n cached w k b = IsTrue (seen cached (n ∷ ns) w n k b) ↔ ((m : Node) × IsMark cached ns b w m × (KnowsOne (Visible k) ns (λ q. edge ns q n) m
    ⊎ ((q : Node) × Contains ns q × IsTrue (is_limited q.act) × IsTrue (makes_writes_visible cached ns (command_mask k) b q q.act) × IsTrue (edge ns q n) × Reaches ns m q)))

-- The same of an access by the host that needs no invalidation: of nodes before it that make writes visible to the host.
abbrev pub SeenByHost : List Node → Node → (Byte → Bool) → Node → Access → Byte → Type 0
SeenByHost ns n cached w k b = IsTrue (seen cached (n ∷ ns) w n k b) ↔ ((m : Node) × IsMark cached ns b w m × (KnowsOne (OnHost k) ns (λ q. edge ns q n) m
    ⊎ ((q : Node) × Contains ns q × IsTrue (is_limited q.act) × IsTrue (to_host q.act && makes_writes_visible cached ns (host_mask k) b q q.act) × IsTrue (before (n ∷ ns) q n) × Reaches ns m q)))

-- A transition that comes next sees a write exactly where it is known at the transition itself.
abbrev pub SeenByTransition : List Node → Node → (Byte → Bool) → Node → Access → Byte → Type 0
SeenByTransition ns n cached w k b = IsTrue (seen cached (n ∷ ns) w n k b) ↔ ((m : Node) × IsMark cached (n ∷ ns) b w m × Reaches (n ∷ ns) m n)

-- These, of every node that comes next.
abbrev pub LimitedSeen : Type 0
LimitedSeen = (ns : List Node) (n w : Node) (cached : Byte → Bool) (k : Access) (b : Byte) → IsNumbered (n ∷ ns) → IsWrite cached ns w b
    → (IsTrue (is_command n.act) → SeenByCommand ns n cached w k b) × (IsTrue (is_host n.act) → needs_invalidation cached (n ∷ ns) k b ≡ false → SeenByHost ns n cached w k b) × (IsTrue (is_element n.act) → SeenByTransition ns n cached w k b)
