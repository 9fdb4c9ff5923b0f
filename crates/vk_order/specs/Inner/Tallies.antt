-- What is known of lines: how many nodes they have, and what comes after these.
use Rattle.std.specs.Prelude.{◌≡◌, ◌+◌, ◌<◌, ◌^◌, ◌∷◌, ℕ, List, map, length, slice_get, Some, IsTrue, is_some, Contains, [], ◌||◌, false}
use Rattle.vk_model.specs.Sync.Node.{Node}
use Rattle.vk_model.specs.Sync.Edge.{edge, siblings, waited_by}
use Rattle.vk_model.specs.Sync.Before.{IsNumbered}
use Rattle.vk_order.specs.declared.acts.Row.{Row}
use Rattle.vk_order.specs.declared.fronts.Front.{Front}
use Rattle.vk_order.specs.declared.lines.Line.{Line}
use Rattle.vk_order.specs.declared.tallies.LineTally.{LineTally}
use Rattle.vk_model.specs.Trace.PointViews.{point_of}
use Rattle.vk_order.specs.NodeViews.{act_of, node_of}
use Rattle.vk_order.specs.Lines.{class_of, class_on, same_line, place}
use Rattle.vk_order.specs.Inner.Leads.{line_leads}
use Rattle.vk_order.specs.Inner.Links.{by_name}
use Rattle.vk_order.specs.Inner.Places.{index_in}
use Rattle.vk_order.specs.Inner.Fronts.{IsFront}

-- The lines of tallies.
abbrev pub lines_of : List LineTally → List Line
lines_of ts = map (λ t. t.line) ts

-- A tally of a line: how many nodes it has, and what comes after them.
pub record IsLineTally (ns : List Node) (ls : List Line) (t : LineTally) : Type 0 where
  pub front : IsFront ns ls (λ k. same_line t.line (class_of k)) t.front
  pub count : t.count ≡ place ns t.line (length ns)

-- The line of each node has a tally of its own.
pub record IsTallied (ns : List Node) (ts : List LineTally) : Type 0 where
  pub each : (i : ℕ) (t : LineTally) → slice_get ts i ≡ Some t → IsLineTally ns (lines_of ts) t
  pub apart : (i : ℕ) (t : LineTally) → slice_get ts i ≡ Some t → index_in (lines_of ts) t.line ≡ Some i
  pub listed : (k : Node) → Contains ns k → IsTrue (is_some (index_in (lines_of ts) (class_of k)))

-- A row comes next, as node n, and this is what comes before it.
pub record IsComing (ns : List Node) (ls : List Line) (n : Node) (row : Row) (known : Front) : Type 0 where
  pub numbers : IsNumbered (n ∷ ns)
  pub few : length ns + 1 < 2 ^ 32
  pub point : n.point ≡ point_of row.point
  pub act : n.act ≡ act_of row.act
  pub front : IsFront ns ls (λ k. edge ns k n) known

-- Rows can follow nodes: none is an element of a command that is there, none leads to a later one of them, and only the first may wait.
pub record CanFollow (ns : List Node) (fresh : List Row) : Type 0 where
  pub apart : (i : ℕ) (r : Row) → slice_get fresh i ≡ Some r → (k : Node) → Contains ns k → siblings k (node_of (length ns + i) r) ≡ false
  pub quiet : (i j : ℕ) (q r : Row) → slice_get fresh i ≡ Some q → slice_get fresh j ≡ Some r → i < j → (all : List Node) → edge all (node_of (length ns + i) q) (node_of (length ns + j) r) ≡ false
  pub later : (j : ℕ) (r : Row) → slice_get fresh j ≡ Some r → 0 < j → waited_by (act_of r.act) ≡ []

-- The line of each row is listed.
abbrev pub AreOnLines : List Line → List Row → Type 0
AreOnLines ls rows = (i : ℕ) (r : Row) → slice_get rows i ≡ Some r → IsTrue (is_some (index_in ls (class_on r.point.queue (act_of r.act))))

-- The front of each row, from the nodes that were there before all of them.
abbrev pub AreFronts : List Node → List Line → List Row → List Front → Type 0
AreFronts ns ls rows fronts = (i : ℕ) (r : Row) (f : Front) → slice_get rows i ≡ Some r → slice_get fronts i ≡ Some f → (j : ℕ)
    → IsFront ns ls (λ k. line_leads r.point.queue (act_of r.act) (class_of k) || by_name ns k (node_of j r)) f
