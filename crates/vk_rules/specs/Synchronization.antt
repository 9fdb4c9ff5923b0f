-- STAGE: which masks are wrong. EVENT_STATE, EVENT_DEPENDENCY and SIGNAL_ORDER: of which event or semaphore, and what is compared.
use Rattle.std.specs.Prelude.{◌≡◌, ℕ, ◌+◌, ◌<◌, List, length, Contains, Bool, true, false, nat_lt, Option, Some, None, option_map, option_and_then, slice_get, bit_and}
use Rattle.vk_model.specs.declared.command.Cmd.{Cmd}
use Rattle.vk_model.specs.declared.command.Cmd.TheVariants as cmd
use Rattle.vk_model.specs.declared.command.Dependency.{Dependency}
use Rattle.vk_model.specs.Basics.{has_bits, has_some}
use Rattle.vk_model.specs.Sync.Edge.{transfer_stage, host_stage, all_commands}
use Rattle.vk_model.specs.Trace.Order.{signal_of}
use Rattle.vk_model.specs.Trace.Point.{Past, Action, Wait, Signal, Run}
use Rattle.vk_model.specs.World.Ownership.{dependency_of}
use Rattle.vk_model.specs.Rules.Synchronization.{known_stages, known_accesses, sets, on_queue, same_dependency}
use Rattle.vk_rules.specs.declared.items.Item.{Item}
use Rattle.vk_rules.specs.declared.items.Item.TheVariants as item
use Rattle.vk_rules.specs.declared.stages.Side.{Side}
use Rattle.vk_rules.specs.declared.stages.Side.TheVariants as side
use Rattle.vk_rules.specs.declared.stages.MaskFault.{MaskFault}
use Rattle.vk_rules.specs.declared.stages.MaskFault.TheVariants as fault
use Rattle.vk_rules.specs.declared.stages.BadMasks.{BadMasks}
use Rattle.vk_rules.specs.declared.synchronization.EventUse.{EventUse}
use Rattle.vk_rules.specs.declared.synchronization.OtherElements.{OtherElements}
use Rattle.vk_rules.specs.declared.synchronization.UnorderedSignal.{UnorderedSignal}

-- ---- STAGE

-- The dependency of an item of a command: of a barrier's element, or of one of an event.
abbrev pub dependency_at : Cmd → Item → Option Dependency
dependency_at (cmd.Barrier es) (item.Element k) = option_map dependency_of (slice_get es k)
dependency_at (cmd.Set v ms) (item.Element k) = slice_get ms k
dependency_at (cmd.Await v ms) (item.Element k) = slice_get ms k
dependency_at _ _ = None

-- The stages and the accesses of a side of a dependency.
abbrev pub masks_of : Side → Dependency → Option (ℕ × ℕ)
masks_of side.Source d = Some (d.source_stages.0, d.source_accesses.0)
masks_of side.Destination d = Some (d.destination_stages.0, d.destination_accesses.0)
masks_of side.Submit d = None

-- The stages and the accesses of an item of an action; a wait or a signal of a batch has no accesses.
abbrev pub action_masks : Action → Item → Side → Option (ℕ × ℕ)
action_masks (Wait s) item.Only side.Submit = Some (s.stages.0, 0)
action_masks (Signal s) item.Only side.Submit = Some (s.stages.0, 0)
action_masks (Run c) q w = option_and_then (masks_of w) (dependency_at c q)
action_masks _ _ _ = None

-- What is wrong with stages and accesses: a bit that isn't known; accesses of transfers or of the host whose stage isn't there; or HOST.
abbrev pub IsUnfit : ℕ → ℕ → MaskFault → Type 0
IsUnfit stages accesses fault.UnknownStage = has_bits known_stages stages ≡ false
IsUnfit stages accesses fault.UnknownAccess = has_bits known_accesses accesses ≡ false
IsUnfit stages accesses (fault.NoTransfer a) = (a.0 ≡ bit_and accesses (2048 + 4096)) × (0 < a.0) × (has_some stages (transfer_stage + all_commands) ≡ false)
IsUnfit stages accesses (fault.NoHost a) = (a.0 ≡ bit_and accesses (8192 + 16384)) × (0 < a.0) × (has_some stages host_stage ≡ false)
IsUnfit stages accesses fault.HostStage = has_some stages host_stage ≡ true

-- Whether it is HOST that is wrong.
abbrev pub is_barring : MaskFault → Bool
is_barring fault.HostStage = true
is_barring _ = false

-- Whether HOST isn't allowed there: in the first scope of an event's element, and in a wait or a signal of a batch.
abbrev pub bars_host : Action → Side → Bool
bars_host (Wait s) side.Submit = true
bars_host (Signal s) side.Submit = true
bars_host (Run (cmd.Set v ms)) side.Source = true
bars_host (Run (cmd.Await v ms)) side.Source = true
bars_host _ _ = false

-- What is reported of an action that breaks STAGE: these are masks that it has there, and what is wrong with them.
abbrev pub IsStage : Action → BadMasks → Type 0
IsStage a m = (action_masks a m.item m.side ≡ Some (m.stages.0, m.accesses.0)) × IsUnfit m.stages.0 m.accesses.0 m.fault × (is_barring m.fault ≡ true → bars_host a m.side ≡ true)

-- ---- EVENT_STATE

-- Whether an event was set (Vulkan, "Events").
abbrev pub is_set : Past → ℕ → Bool
is_set past v = nat_lt 0 (length (sets past v))

-- An action on a queue sets an event that was set, or awaits one that wasn't set on the queue.
abbrev pub IsMisuse : Past → ℕ → Action → EventUse → Type 0
IsMisuse past q (Run (cmd.Set v ms)) m = (m.event ≡ v) × (m.is_set ≡ true)
IsMisuse past q (Run (cmd.Await v ms)) m = (m.event ≡ v) × (is_set (on_queue q past) v ≡ false)
IsMisuse past q _ m = ⊥

-- What is reported of an action on a queue that breaks EVENT_STATE: its event, and whether that was set.
pub record IsEventUse (past : Past) (q : ℕ) (a : Action) (m : EventUse) : Type 0 where
  pub misuse : IsMisuse past q a m
  pub set : m.is_set ≡ is_set past m.event

-- ---- EVENT_DEPENDENCY

-- Whether two elements are equal, or there is neither.
abbrev pub same_one : Option Dependency → Option Dependency → Bool
same_one (Some d) (Some e) = same_dependency d e
same_one None None = true
same_one _ _ = false

-- Two lists of elements differ first at an index.
pub record IsDifference (awaited set : List Dependency) (k : ℕ) : Type 0 where
  pub differs : same_one (slice_get awaited k) (slice_get set k) ≡ false
  pub alike : (j : ℕ) → j < k → same_one (slice_get awaited j) (slice_get set j) ≡ true

-- The elements that an event is awaited with, and those that it was set with, if it was, differ first at this index.
pub record AreOthers (past : Past) (v : ℕ) (awaited : List Dependency) (m : OtherElements) : Type 0 where
  pub event : m.event ≡ v
  pub element : (es : List Dependency) → Contains (sets past v) es → IsDifference awaited es m.element

-- What is reported of an action that breaks EVENT_DEPENDENCY.
abbrev pub IsEventDependency : Past → Action → OtherElements → Type 0
IsEventDependency past (Run (cmd.Await v ms)) m = AreOthers past v ms m
IsEventDependency past _ m = ⊥

-- ---- SIGNAL_ORDER

-- What is reported of an action that breaks SIGNAL_ORDER: the semaphore that it signals, and to which value (Vulkan, "Semaphore Signaling").
abbrev pub IsSignalOrder : Action → UnorderedSignal → Type 0
IsSignalOrder a m = signal_of a ≡ Some (m.semaphore, m.value)
