-- Which nodes make a write available, by what is kept of it.
use Rattle.std.specs.Prelude.{◌≡◌, ◌<◌, ◌⊎◌, ℕ, false, not, ◌&&◌, ◌||◌, List, nat_lt, IsTrue, Contains, Some}
use Rattle.vk_model.specs.Trace.Point.{Past}
use Rattle.vk_model.specs.World.Bytes.{Byte}
use Rattle.vk_model.specs.Sync.Node.{Node, nodes}
use Rattle.vk_model.specs.Sync.Edge.{is_host, is_submit}
use Rattle.vk_model.specs.Sync.Before.{before}
use Rattle.vk_model.specs.Sync.Seen.{passes, flushes}
use Rattle.vk_order.specs.Bytes.{byte_of}
use Rattle.vk_order.specs.Lines.{line_of, class_of, IsPlaced, is_of_sets}
use Rattle.vk_order.specs.declared.lines.Line.{Line}
use Rattle.vk_hazards.specs.Hazards.{node_at}
use Rattle.vk_hazards.specs.Links.{cached, makes_available}
use Rattle.vk_hazards.specs.declared.availability.Write.{Write}
use Rattle.vk_hazards.specs.declared.availability.First.{First}
use Rattle.vk_hazards.specs.declared.visibility.Pair.{Pair}

-- A write by the host is made available by exactly the submits after the node of this number.
abbrev pub IsAvailableFrom : Past → Node → Byte → ℕ → Type 0
IsAvailableFrom past w b from = (p : Node) → Contains (nodes past) p → IsTrue (is_host w.act) → IsTrue (is_submit p.act)
    → nat_lt from p.number ≡ (before (nodes past) w p && (not (cached past b) || passes (cached past) (nodes past) (λ f. flushes f b) w p))

-- A write is one by a node of the past.
pub record IsWrite (past : Past) (w : Write) : Type 0 where
  pub there : Contains (nodes past) (node_at w.by)
  pub from : IsAvailableFrom past (node_at w.by) (byte_of w.byte) w.from

-- So is the write of a pair, and the later access.
pub record IsPair (past : Past) (p : Pair) : Type 0 where
  pub write : IsWrite past p.write
  pub later : Contains (nodes past) (node_at p.later)

-- A node that makes a write available, with its line.
pub record MakesAvailable (past : Past) (w : Node) (b : Byte) (f : First) (n : Node) : Type 0 where
  pub there : Contains (nodes past) n
  pub number : n.number ≡ f.number
  pub line : class_of n ≡ f.line
  pub is_made_available_at : IsTrue (makes_available past w b n)

-- A line, which isn't that of elements of sets, is one of some.
pub record IsListed (firsts : List First) (line : Line) : Type 0 where
  pub of_line : is_of_sets line ≡ false
  pub first : First
  pub there : Contains firsts first
  pub same : first.line ≡ line

-- One node stands for another: it is this one, or an earlier one of its line.
abbrev pub Represents : Node → Node → Type 0
Represents m n = (m ≡ n) ⊎ ((line_of m ≡ line_of n) × ((l : Line) × (line_of n ≡ Some l)) × (m.number < n.number))

-- Of the nodes that make a write available the first of each line, and all elements of sets; the elements of one command are together.
pub record AreFirsts (past : Past) (w : Node) (b : Byte) (firsts : List First) : Type 0 where
  pub placed : IsPlaced (nodes past)
  pub each : (f : First) → Contains firsts f → (n : Node) × MakesAvailable past w b f n
  pub all : (n : Node) → Contains (nodes past) n → IsTrue (makes_available past w b n) → (f : First) × Contains firsts f × ((m : Node) × MakesAvailable past w b f m × Represents m n)
