-- Commands come after their submits; so what is before a command is before each later one of its queue.
use Rattle.std.specs.Prelude.{◌≡◌, ℕ, ◌<◌, ◌≤◌, List, IsTrue, Contains, Some}
use Rattle.vk_model.specs.declared.entry.Entry.{Entry}
use Rattle.vk_model.specs.Trace.Point.{Past}
use Rattle.vk_model.specs.Trace.Order.{order}
use Rattle.vk_model.specs.Trace.Structure.{IsOrdered}
use Rattle.vk_model.specs.Sync.Node.{Node, nodes}
use Rattle.vk_model.specs.Sync.Edge.{is_command, is_submit}
use Rattle.vk_model.specs.Sync.Before.{before, IsNumbered}
use Rattle.vk_order.specs.declared.lines.Line.TheVariants.{Commands as OfCommands}
use Rattle.vk_order.specs.Lines.{line_of}
use Rattle.vk_order.specs.Prefixes.{submits}

-- Each command comes after the submit of its entry; submits, and the commands of each queue, come in the order of their entries (Vulkan, "Queue Submission" and "Implicit Synchronization Guarantees").
pub record AreSubmitted (ns : List Node) : Type 0 where
  pub submitted : (d : Node) → Contains ns d → IsTrue (is_command d.act) → (s : Node) × Contains ns s × IsTrue (submits d.point.entry s) × (s.number < d.number)
  pub submits : (j k : Node) → Contains ns j → Contains ns k → IsTrue (is_submit j.act) → IsTrue (is_submit k.act) → j.point.entry ≤ k.point.entry → j.number ≤ k.number
  pub commands : (c d : Node) → Contains ns c → Contains ns d → IsTrue (is_command c.act) → IsTrue (is_command d.act) → c.point.queue ≡ d.point.queue → c.number < d.number → c.point.entry ≤ d.point.entry

-- What is before a command is before each later command of its queue (Vulkan, "Execution and Memory Dependencies" and "Queue Submission").
abbrev pub CommandsFollow : Type 0
CommandsFollow =
    (ns : List Node) (q : ℕ) (m c d : Node) → IsNumbered ns → AreSubmitted ns → Contains ns m → Contains ns c → Contains ns d
    → line_of c ≡ Some (OfCommands q) → line_of d ≡ Some (OfCommands q) → c.number < d.number → IsTrue (before ns m c) → IsTrue (before ns m d)

-- The nodes of an ordered past are submitted so.
abbrev pub OrderedAreSubmitted : Type 0
OrderedAreSubmitted = (past : Past) → IsOrdered past → AreSubmitted (nodes past)

-- So are those of a trace, in reference order.
abbrev pub OrderIsSubmitted : Type 0
OrderIsSubmitted = (t : List Entry) → AreSubmitted (nodes (order t))
