-- Edges and lines of nodes.
use Rattle.std.proofs.Common.{◌≡◌, ◌<◌, List, Bool, true, false, ◌&&◌, ◌||◌, IsTrue, Some, refl, ap, ◌∙◌}
use Rattle.std.specs.Prelude.{nat_lt, Contains}
use Rattle.std.proofs.lemmas.Bool.{lt-ltb}
use Rattle.vk_model.specs.Trace.Point.{Past}
use Rattle.vk_model.specs.declared.command.Cmd.{Cmd}
use Rattle.vk_model.specs.Sync.Node.{Node, Runs, nodes}
use Rattle.vk_model.specs.Sync.Edge.{edge, earlier, by_semaphore, signaled_by, is_host}
use Rattle.vk_model.specs.Sync.Before.{before, direct}
use Rattle.vk_model.proofs.Sync.Numbers.{numbered}
use Rattle.vk_model.proofs.Sync.Paths.{before_of_path}
use Rattle.vk_order.specs.Lines.{is_of_sets, line_of, class_of}
use Rattle.vk_order.specs.Edges.{unsignaled}
use Rattle.vk_order.proofs.AvailabilityLemmas.{lined}
use Rattle.std.proofs.Math.Bool.{or-false}

-- a command signals nothing
pub edge_from_command : (ns : List Node) (w p : Node) (c : Cmd) → w.act ≡ Runs c → edge ns w p ≡ (nat_lt w.number p.number && unsignaled w p)
unfolding edge
edge_from_command ns w p c is =
    let silent : by_semaphore (earlier p ns) w p ≡ false = rw (ap signaled_by is) refl in
    ap (λ (t : Bool). nat_lt w.number p.number && (unsignaled w p || t)) silent ∙ ap (λ (t : Bool). nat_lt w.number p.number && t) (or-false (unsignaled w p))

host_edge : (ns : List Node) (m n : Node) → m.number < n.number → is_host m.act ≡ true → is_host n.act ≡ true → IsTrue (edge ns m n)
unfolding edge
host_edge ns m n lt hm hn = rw (lt-ltb m.number n.number lt, hm, hn) refl

module _ (past : Past) where
  pub host_before : (m n : Node) → Contains (nodes past) m → Contains (nodes past) n → is_host m.act ≡ true → is_host n.act ≡ true → m.number < n.number → IsTrue (before (nodes past) m n)
  host_before m n cm cn hm hn lt = before_of_path (nodes past) (numbered past) m n cm cn (direct cm cn (host_edge (nodes past) m n lt hm hn))

  pub edge_before : (m n : Node) → Contains (nodes past) m → Contains (nodes past) n → IsTrue (edge (nodes past) m n) → IsTrue (before (nodes past) m n)
  edge_before m n cm cn e = before_of_path (nodes past) (numbered past) m n cm cn (direct cm cn e)

-- what is no element of a set has a line
pub line_is : (n : Node) → is_of_sets (class_of n) ≡ false → line_of n ≡ Some (class_of n)
line_is n h = lined n.point.queue n.act h
