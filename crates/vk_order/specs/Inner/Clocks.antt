-- Clocks: how many nodes of each line are before a node.
use Rattle.std.specs.Prelude.{◌≡◌, ◌↔◌, ℕ, ◌+◌, ◌<◌, ◌≤◌, max, List, length, Bool, if◌then◌else◌, IsTrue, Contains, Some}
use Rattle.vk_model.specs.Sync.Node.{Node}
use Rattle.vk_model.specs.Sync.Before.{before}
use Rattle.vk_order.specs.declared.lines.Line.{Line}
use Rattle.vk_order.specs.Lines.{line_of, on_line, place}
use Rattle.vk_order.specs.Prefixes.{Leads}

-- For each line a count of its nodes.
abbrev pub Clock : Type 0
Clock = Line → ℕ

-- A clock of node n: it counts, line by line, exactly the nodes before n.
pub record IsClock (ns : List Node) (n : Node) (clock : Clock) : Type 0 where
  pub counts : (l : Line) (m : Node) → Contains ns m → line_of m ≡ Some l → IsTrue (before ns m n) ↔ (place ns l m.number < clock l)
  pub bounded : (l : Line) → clock l ≤ place ns l n.number

-- A join over the nodes that pass a test: it counts, line by line, exactly these and the nodes before them.
pub record IsJoin (ns : List Node) (test : Node → Bool) (clock : Clock) : Type 0 where
  pub counts : (l : Line) (m : Node) → Contains ns m → line_of m ≡ Some l → Leads ns test m ↔ (place ns l m.number < clock l)
  pub bounded : (l : Line) → clock l ≤ place ns l (length ns)

-- What comes earlier on the line of a node that passes the test, leads to one that does too.
abbrev pub IsWhole : List Node → (Node → Bool) → Type 0
IsWhole ns test = (l : Line) (c d : Node) → Contains ns c → Contains ns d → line_of c ≡ Some l → line_of d ≡ Some l → c.number < d.number → IsTrue (test d) → Leads ns test c

-- The greater of two clocks, line by line.
abbrev pub joined : Clock → Clock → Clock
joined c d l = max (c l) (d l)

-- The clock of a node that counts itself too.
abbrev pub itself : List Node → Node → Clock → Clock
itself ns n clock l = if on_line l n then place ns l n.number + 1 else clock l

-- A join when a node has come.
abbrev pub extended : List Node → (Node → Bool) → Node → Clock → Clock → Clock
extended ns test n clock join = if test n then joined join (itself ns n clock) else join
