-- Which nodes touched a byte last, and which node signaled a semaphore last.
use Rattle.std.specs.Prelude.{ℕ, ◌+◌, List, [], ◌∷◌, length, Bool, false, ◌&&◌, ◌==◌, if◌then◌else◌, Option, Some, None, option_map}
use Rattle.std.specs.List.{list_any}
use Rattle.std.specs.Option.{option_or}
use Rattle.vk_model.specs.declared.command.Cmd.TheVariants as cmd
use Rattle.vk_model.specs.declared.command.Element.{Element}
use Rattle.vk_model.specs.Basics.{holds}
use Rattle.vk_model.specs.World.Bytes.{Byte}
use Rattle.vk_model.specs.World.ByteWrites.{byte_writes}
use Rattle.vk_model.specs.Trace.Point.{Past, Point, Action, Host, Wait, Run, Signal}
use Rattle.vk_model.specs.Trace.Order.{signal_of}
use Rattle.vk_model.specs.Sync.Node.{Node, Act, Hosts, Waits, Signals, Runs, nodes}
use Rattle.vk_model.specs.Sync.Seen.{Read, seen, flushes, invalidates}
use Rattle.vk_model.specs.Sync.Access.{is_in, targets, origins, host_reads, host_writes, transition_bytes}
use Rattle.vk_order.specs.Barriers.{element_node}
use Rattle.vk_order.specs.Cached.{uncached}
use Rattle.vk_order.specs.Lines.{class_of, place}
use Rattle.vk_order.specs.declared.lines.Line.{Line}
use Rattle.vk_order.specs.declared.lines.Line.TheVariants.{Host as OfHost, Commands as OfCommands, Signals as OfSignals}
use Rattle.vk_touches.specs.declared.touches.Spot.{Spot}
use Rattle.vk_touches.specs.declared.touches.Touch.{Touch}
use Rattle.vk_touches.specs.declared.touches.Touch.TheVariants as touch
use Rattle.vk_touches.specs.declared.touches.LastTouches.{LastTouches}

-- The node of a point that comes next and has one act.
abbrev pub next_node : Past → Point → Act → Node
next_node past p a = record { number = length (nodes past); point = p; act = a }

-- The act of an action that is a single one.
abbrev pub act_next : Action → Act
act_next (Host x) = Hosts x
act_next (Wait s) = Waits s
act_next (Run c) = Runs c
act_next (Signal s) = Signals s

-- A node, where the test holds.
abbrev pub only_if : Bool → Node → Option Node
only_if test n = if test then Some n else None

-- Whether an action of a point that comes next touches a byte so: a command writes it, the host writes it, the host reads it, a command of a queue reads it.
abbrev pub touches : Touch → Byte → Past → Point → Action → Bool
touches touch.Write b past p (Run c) = is_in b (targets (byte_writes (p ∷ past) c))
touches touch.HostWrite b past p (Host x) = is_in b (host_writes x)
touches touch.HostRead b past p (Host x) = is_in b (host_reads x)
touches (touch.Read q) b past p (Run c) = p.queue == q && is_in b (origins (byte_writes (p ∷ past) c))
touches _ b past p _ = false

-- The node of a point that comes next, where it touches a byte so.
abbrev pub touch_next : Touch → Byte → Past → Point → Action → Option Node
touch_next t b past p d = only_if (touches t b past p d) (next_node past p (act_next d))

-- The act of an action that signals a semaphore.
abbrev pub signal_act : Action → Option Act
signal_act (Host x) = Some (Hosts x)
signal_act (Signal s) = Some (Signals s)
signal_act _ = None

-- The same of a point that signals a semaphore.
abbrev pub signaler_next : ℕ → Past → Point → Action → Option Node
signaler_next s past p d = if holds (signal_of d) (λ x. x.0 == s) then option_map (next_node past p) (signal_act d) else None

-- The last of the nodes that points give.
abbrev pub last_of : (Past → Point → Action → Option Node) → Past → Option Node
last_of of [] = None
last_of of (p ∷ past) = option_or (of past p p.action) (last_of of past)

-- The last node that touched a byte so.
abbrev pub last_touch : Touch → Past → Byte → Option Node
last_touch t past b = last_of (touch_next t b) past

-- The node of a point that comes next, where it flushes a byte.
abbrev pub flush_next : Byte → Past → Point → Action → Option Node
flush_next b past p d = only_if (flushes (act_next d) b) (next_node past p (act_next d))

-- The node of a point that comes next, where it invalidates a byte.
abbrev pub invalidation_next : Byte → Past → Point → Action → Option Node
invalidation_next b past p d = only_if (invalidates (act_next d) b) (next_node past p (act_next d))

-- The first node that flushed a byte since the host wrote it last (Vulkan, "Host Access to Device Memory Objects").
abbrev pub first_flush : Past → Byte → Option Node
first_flush [] b = None
first_flush (p ∷ past) b = if touches touch.HostWrite b past p p.action then None else option_or (first_flush past b) (flush_next b past p p.action)

-- The last node that invalidated a byte.
abbrev pub last_invalidation : Past → Byte → Option Node
last_invalidation past b = last_of (invalidation_next b) past

-- Whether the last invalidation of a byte sees its last write by a command, as a host read there of memory without a cache would (Vulkan, "Host Access to Device Memory Objects").
abbrev pub is_invalidated : Past → Byte → Bool
is_invalidated past b = holds (last_touch touch.Write past b) (λ v. holds (last_invalidation past b) (λ f. seen uncached (nodes past) v f Read b))

-- Whether an element of a barrier on a queue is a transition of a byte (Vulkan, "Image Layout Transitions").
abbrev pub is_transition_of : Past → ℕ → Byte → Element → Bool
is_transition_of past q b e = is_in b (transition_bytes past q e)

-- Whether a point that comes next has a barrier with such an element.
abbrev pub has_transition : Byte → Past → Point → Action → Bool
has_transition b past p (Run (cmd.Barrier es)) = list_any (is_transition_of (p ∷ past) p.queue b) es
has_transition b past p _ = false

-- Of elements of a point's barrier that have numbers from one on, the node of the last one that passes a test.
abbrev pub last_element : Point → (Element → Bool) → ℕ → List Element → Option Node
last_element p test k [] = None
last_element p test k (e ∷ es) = option_or (last_element p test (k + 1) es) (only_if (test e) (element_node p k e))

-- The node of the last element of the barrier of a point that comes next, of those that are transitions of a byte.
abbrev pub transition_next : Byte → Past → Point → Action → Option Node
transition_next b past p (Run (cmd.Barrier es)) = last_element p (is_transition_of (p ∷ past) p.queue b) (length (nodes past)) es
transition_next b past p _ = None

-- The last transition of a byte.
abbrev pub last_transition : Past → Byte → Option Node
last_transition past b = last_of (transition_next b) past

-- The last node that signaled a semaphore.
abbrev pub last_signaler : Past → ℕ → Option Node
last_signaler past s = last_of (signaler_next s) past

-- ---- where they are

-- The line of the node of a point, where it has one act and isn't a wait.
abbrev pub line_next : Point → Action → Line
line_next p (Host x) = OfHost
line_next p (Signal s) = OfSignals p.queue
line_next p _ = OfCommands p.queue

-- The same by the point's own action.
abbrev pub class_next : Point → Line
class_next p = line_next p p.action

-- How many nodes of a line there are: the place of the next one.
abbrev pub next_place : Past → Line → ℕ
next_place past l = place (nodes past) l (length (nodes past))

-- The line of a node, its place in it, and its number.
abbrev pub spot_of : Past → Node → Spot
spot_of past v = record { line = class_of v; place = place (nodes past) (class_of v) v.number; number = v.number }

-- The spot of the node of a point that comes next.
abbrev pub next_spot : Past → Point → Spot
next_spot past p = record { line = class_next p; place = next_place past (class_next p); number = length (nodes past) }

-- Where the last node is that touched a byte so.
abbrev pub last_spot : Touch → Past → Byte → Option Spot
last_spot t past b = option_map (spot_of past) (last_touch t past b)

-- Its place in its line.
abbrev pub last_place : Touch → Past → Byte → Option ℕ
last_place t past b = option_map (λ s. s.place) (last_spot t past b)

-- Where the first node is that flushed a byte since the host wrote it last.
abbrev pub flush_spot : Past → Byte → Option Spot
flush_spot past b = option_map (spot_of past) (first_flush past b)

-- Where the last transition of a byte is.
abbrev pub transition_spot : Past → Byte → Option Spot
transition_spot past b = option_map (spot_of past) (last_transition past b)

-- The line of a signal, and its place in it.
abbrev pub signal_spot : Past → Node → Line × ℕ
signal_spot past v = (class_of v, place (nodes past) (class_of v) v.number)

-- What a byte remembers: of each way the last node that touched it, as the last one on a line stands for the earlier ones there (Vulkan, "Execution and Memory Dependencies", on data hazards); the first flush since the last host write, the last transition, and whether the last invalidation sees the last write by a command.
abbrev pub touched : Past → Byte → LastTouches
touched past b = record {
  write = last_spot touch.Write past b;
  is_invalidated = is_invalidated past b;
  host_write = last_spot touch.HostWrite past b;
  flush = flush_spot past b;
  transition = transition_spot past b;
  host_read = last_place touch.HostRead past b;
  reads = record { first = last_place (touch.Read 0) past b; second = last_place (touch.Read 1) past b; third = last_place (touch.Read 2) past b; fourth = last_place (touch.Read 3) past b };
}
