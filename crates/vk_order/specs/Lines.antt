-- Lines of nodes: of the nodes of one line those that are before another node are the first ones.
use Rattle.std.specs.Prelude.{ℕ, ◌+◌, ◌<◌, ◌==◌, Bool, true, false, not, ◌&&◌, nat_lt, if◌then◌else◌, List, [], ◌∷◌, IsTrue, Contains, Option, Some, None}
use Rattle.vk_order.specs.declared.lines.Line.{Line}
use Rattle.vk_order.specs.declared.lines.Line.TheVariants.{Host as OfHost, Commands as OfCommands, Signals as OfSignals, Elements as OfElements, Sets as OfSets, Waits as OfWaits}
use Rattle.vk_model.specs.Basics.{has_some, has_bits, holds}
use Rattle.vk_model.specs.World.Ownership.{dependency_of}
use Rattle.vk_model.specs.Sync.Node.{Node, Act, Hosts, Waits, Signals, Runs, Depends, SetOf}
use Rattle.vk_model.specs.Sync.Edge.{transfer_stage, host_stage, all_commands, is_element, siblings}

-- Whether stages have the one of clears and copies (Vulkan, "Pipeline Stages").
abbrev pub has_transfer : ℕ → Bool
has_transfer stages = has_some stages (transfer_stage + all_commands)

-- Whether stages have the host's (Vulkan, "Pipeline Stages").
abbrev pub has_host : ℕ → Bool
has_host stages = has_some stages host_stage

-- The line of an element of a barrier or an await, by the stages of its second scope.
abbrev pub element_class : ℕ → ℕ → Line
element_class q stages = OfElements q (has_transfer stages) (has_host stages)

-- The line of an act on a queue; that of a set's element stands for it, but is no line.
abbrev pub class_on : ℕ → Act → Line
class_on q (Hosts x) = OfHost
class_on q (Waits s) = OfWaits q (has_transfer s.stages.0) (has_host s.stages.0) (has_bits s.stages.0 all_commands)
class_on q (Signals s) = OfSignals q
class_on q (Runs c) = OfCommands q
class_on q (Depends (SetOf v k) e) = OfSets q
class_on q (Depends r e) = element_class q (dependency_of e).destination_stages.0

-- The line of an act on a queue: the host's entries, and of each queue its commands, its signals, its elements of barriers and awaits by what their second scope has, and its waits by what theirs has. An element of a set has none: it leads to its own await alone (Vulkan, "Execution and Memory Dependencies" and "Events").
abbrev pub line_on : ℕ → Act → Option Line
line_on q (Depends (SetOf v k) e) = None
line_on q a = Some (class_on q a)

-- The line of a node, also of one of a set.
abbrev pub class_of : Node → Line
class_of n = class_on n.point.queue n.act

-- The line of a node.
abbrev pub line_of : Node → Option Line
line_of n = line_on n.point.queue n.act

-- Whether a line is of elements of sets.
abbrev pub is_of_sets : Line → Bool
is_of_sets (OfSets r) = true
is_of_sets _ = false

-- Whether two truth values are the same.
abbrev pub same_bit : Bool → Bool → Bool
same_bit true b = b
same_bit false b = not b

-- Whether two lines are the same one.
abbrev pub same_line : Line → Line → Bool
same_line OfHost OfHost = true
same_line (OfCommands q) (OfCommands r) = q == r
same_line (OfSignals q) (OfSignals r) = q == r
same_line (OfSets q) (OfSets r) = q == r
same_line (OfElements q t h) (OfElements r u i) = q == r && same_bit t u && same_bit h i
same_line (OfWaits q t h a) (OfWaits r u i b) = q == r && same_bit t u && same_bit h i && same_bit a b
same_line _ _ = false

-- Whether a node is of a line.
abbrev pub on_line : Line → Node → Bool
on_line l n = holds (line_of n) (same_line l)

-- How many nodes of a line have a number below k: the place of node k in it.
abbrev pub place : List Node → Line → ℕ → ℕ
place [] l k = 0
place (n ∷ ns) l k = if nat_lt n.number k && on_line l n then place ns l k + 1 else place ns l k

-- No element of another command is between two elements of one command.
pub record IsPlaced (ns : List Node) : Type 0 where
  pub together : (x y z : Node) → Contains ns x → Contains ns y → Contains ns z → x.number < y.number → y.number < z.number
      → IsTrue (is_element y.act) → IsTrue (siblings x z) → IsTrue (siblings y z)
