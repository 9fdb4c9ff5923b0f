-- What comes after nodes: what is before it, and what it knows of commands' writes.
use Rattle.std.specs.Prelude.{◌≡◌, ◌≤◌, ◌∷◌, ℕ, Bool, false, List, length, map, Option, Some, None, Contains}
use Rattle.vk_model.specs.Sync.Node.{Node}
use Rattle.vk_order.specs.declared.lines.Line.{Line}
use Rattle.vk_order.specs.declared.fronts.Front.{Front}
use Rattle.vk_order.specs.Inner.Clocks.{IsClock}
use Rattle.vk_order.specs.Inner.Kept.{clock_at, IsKeptJoin, IsOwn}
use Rattle.vk_order.specs.Inner.Counts.{count_in}
use Rattle.vk_order.specs.Inner.Rows.{Knowledge, IsRow, IsKeptRow}

-- The clock of a front.
abbrev pub clock_in : Front → List ℕ
clock_in f = map (λ c. c.clock) f.counts.items

-- The row of a front for what is known of writes.
abbrev pub row_in : Knowledge → Front → List ℕ
row_in g f = map (count_in g) f.counts.items

-- A front is what comes after the nodes that pass a test.
pub record IsFront (ns : List Node) (ls : List Line) (test : Node → Bool) (f : Front) : Type 0 where
  pub clock : IsKeptJoin ns ls test (clock_in f)
  pub rows : (g : Knowledge) → IsKeptRow g ns ls test (row_in g f)

-- The front of the nodes of a name; without one there are no such nodes.
abbrev pub IsNamed : List Node → List Line → (Node → Bool) → Option Front → Type 0
IsNamed ns ls test None = (k : Node) → Contains ns k → test k ≡ false
IsNamed ns ls test (Some f) = IsFront ns ls test f

-- A front is what comes after node n alone, the newest.
pub record IsOwnFront (ns : List Node) (ls : List Line) (n : Node) (f : Front) : Type 0 where
  pub before : List ℕ
  pub clock : IsClock (n ∷ ns) n (clock_at ls before)
  pub own : IsOwn ns ls n before (clock_in f)
  pub rows : (g : Knowledge) → IsRow g (n ∷ ns) n (clock_at ls (row_in g f))
  pub short : (g : Knowledge) → length (row_in g f) ≤ length ls
