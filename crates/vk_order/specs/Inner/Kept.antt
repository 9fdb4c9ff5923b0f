-- What clocks and stamps say of nodes: a clock counts, line by line, exactly the nodes before a node.
use Rattle.std.specs.Prelude.{◌≡◌, ◌≤◌, ℕ, Bool, false, List, [], length, slice_get, slice_index_or, Some, IsTrue, true, is_some, Contains}
use Rattle.std.specs.Option.{option_map_or}
use Rattle.vk_model.specs.declared.command.Element.{Element}
use Rattle.vk_model.specs.Sync.Node.{Node, Act, Hosts, Signals, Depends, SetOf}
use Rattle.vk_order.specs.declared.acts.Row.{Row}
use Rattle.vk_order.specs.declared.clocks.Stamp.{Stamp}
use Rattle.vk_order.specs.declared.lines.Line.{Line}
use Rattle.vk_order.specs.NodeViews.{node_of, nodes_after}
use Rattle.vk_order.specs.Lines.{line_of, class_of, place}
use Rattle.vk_order.specs.Inner.Places.{index_in}
use Rattle.vk_order.specs.Inner.Clocks.{Clock, IsClock, IsJoin, itself}

-- The count that a kept clock has for a line.
abbrev pub clock_at : List Line → List ℕ → Clock
clock_at ls clock l = option_map_or (λ i. slice_index_or clock i 0) (index_in ls l) 0

-- A stamp of node n: its clock is one, and its place is its own.
pub record IsStamp (ns : List Node) (ls : List Line) (n : Node) (s : Stamp) : Type 0 where
  pub clock : IsClock ns n (clock_at ls s.clock.items)
  pub place : (l : Line) → line_of n ≡ Some l → s.place ≡ place ns l n.number
  pub short : length s.clock.items ≤ length ls

-- A kept clock is the join over the nodes that pass a test.
pub record IsKeptJoin (ns : List Node) (ls : List Line) (test : Node → Bool) (clock : List ℕ) : Type 0 where
  pub join : IsJoin ns test (clock_at ls clock)
  pub short : length clock ≤ length ls

-- Each node has a stamp, and its line is listed.
pub record IsStamped (rows : List Row) (stamps : List Stamp) (ls : List Line) : Type 0 where
  pub lengths : length stamps ≡ length rows
  pub stamped : (i : ℕ) (r : Row) (s : Stamp) → slice_get rows i ≡ Some r → slice_get stamps i ≡ Some s → IsStamp (nodes_after [] rows) ls (node_of i r) s
  pub listed : (k : Node) → Contains (nodes_after [] rows) k → IsTrue (is_some (index_in ls (class_of k)))

-- A kept clock of node n that counts the node too.
pub record IsOwn (ns : List Node) (ls : List Line) (n : Node) (clock own : List ℕ) : Type 0 where
  pub counts : (l : Line) → clock_at ls own l ≡ itself ns n (clock_at ls clock) l
  pub short : length own ≤ length ls

-- Whether a node is a host entry, a signal or an element of a set, each of which is known by itself.
abbrev pub is_alone : Act → Bool
is_alone (Hosts x) = true
is_alone (Signals s) = true
is_alone (Depends (SetOf v k) e) = true
is_alone _ = false

-- An act is an element of a set.
abbrev pub IsSet : Act → Type 0
IsSet a = (v : ℕ) × (k : ℕ) × (e : Element) × (a ≡ Depends (SetOf v k) e)

-- Lines, and more of them: a kept clock counts as before.
pub record IsLonger (ls more : List Line) : Type 0 where
  pub same : (clock : List ℕ) → length clock ≤ length ls → (l : Line) → clock_at ls clock l ≡ clock_at more clock l
  pub listed : (l : Line) → IsTrue (is_some (index_in ls l)) → IsTrue (is_some (index_in more l))
  pub long : length ls ≤ length more
