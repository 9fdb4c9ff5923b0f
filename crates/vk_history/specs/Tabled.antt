-- The tables of a history say what its past does.
use Rattle.std.specs.Prelude.{◌≡◌, ℕ, max, Option, unwrap_or}
use Rattle.std.specs.Option.{option_map}
use Rattle.std.specs.List.{fold}
use Rattle.std.specs.Ordering.{nat_cmp}
use Rattle.std.specs.BTreeMap.{get}
use Rattle.vk_ids.specs.Ids.{value_of}
use Rattle.vk_model.specs.Trace.Point.{Past}
use Rattle.vk_model.specs.Trace.Order.{signaled}
use Rattle.vk_model.specs.Sync.Node.{nodes}
use Rattle.vk_order.specs.declared.lines.Line.{Line}
use Rattle.vk_order.specs.Frontiers.{IsFrontier}
use Rattle.vk_history.specs.declared.tables.Tables.{Tables}
use Rattle.vk_history.specs.Contents.{AreContents}
use Rattle.vk_history.specs.declared.objects.Creator.{Creator}
use Rattle.vk_history.specs.declared.objects.Objects.{Objects}
use Rattle.vk_history.specs.declared.semaphores.Signals.{Signals}
use Rattle.vk_history.specs.declared.semaphores.Semaphores.{Semaphores}
use Rattle.vk_history.specs.declared.events.EventSet.{EventSet}
use Rattle.vk_history.specs.declared.events.Events.{Events}
use Rattle.vk_history.specs.Bound.{AreBound}
use Rattle.vk_history.specs.Counted.{AreMappings, AreOccupants, AreDefrags}
use Rattle.vk_history.specs.Residents.{AreResidents}
use Rattle.vk_history.specs.Ended.{AreEndings}
use Rattle.vk_history.specs.Layouts.{AreCurrent}
use Rattle.vk_history.specs.Made.{Numbered, last_creator, Set, last_set}
use Rattle.vk_touches.specs.Touched.{last_signaler, signal_spot}
use Rattle.vk_history.specs.Uses.{AreUses}
use Rattle.vk_history.specs.Owners.{AreOwners}

-- The entry that a table keeps, with its number.
abbrev pub creator_view : Creator → Numbered
creator_view m = record { entry = m.entry.now; number = m.number }

-- The last creator of each id.
abbrev pub AreObjects : Objects → Past → Type 0
AreObjects objects past = (i : ℕ) → option_map creator_view (value_of objects.creators i) ≡ last_creator past i

-- The set that a table keeps.
abbrev pub set_view : EventSet → Set
set_view s = record { queue = s.queue; elements = s.elements.now }

-- The last set of each event.
abbrev pub AreEvents : Events → Past → Type 0
AreEvents events past = (v : ℕ) → option_map set_view (get nat_cmp events.sets v) ≡ last_set past v

-- Where the last signal that a table keeps is.
abbrev pub spot_view : Signals → Line × ℕ
spot_view s = (s.line, s.place)

-- The greatest value signaled to a semaphore; 0 before the first signal.
abbrev pub greatest_of : Option Signals → ℕ
greatest_of o = unwrap_or (option_map (λ s. s.greatest) o) 0

-- The greatest value and the last signal of each semaphore.
pub record AreSemaphores (semaphores : Semaphores) (past : Past) : Type 0 where
  pub greatest : (s : ℕ) → greatest_of (get nat_cmp semaphores.signals s) ≡ fold max 0 (signaled past s)
  pub last : (s : ℕ) → option_map spot_view (get nat_cmp semaphores.signals s) ≡ option_map (signal_spot past) (last_signaler past s)

-- All tables say what the past does.
pub record IsTabled (tables : Tables) (past : Past) : Type 0 where
  pub objects : AreObjects tables.objects past
  pub endings : AreEndings tables.endings past
  pub mappings : AreMappings tables.mappings past
  pub occupants : AreOccupants tables.occupants past
  pub residents : AreResidents tables.residents past
  pub bound : AreBound tables.bound past
  pub defrags : AreDefrags tables.defrags past
  pub semaphores : AreSemaphores tables.semaphores past
  pub events : AreEvents tables.events past
  pub layouts : AreCurrent tables.layouts past
  pub contents : AreContents tables.contents past
  pub uses : AreUses tables.uses past
  pub owners : AreOwners tables.owners past
  pub frontier : IsFrontier tables.frontier (nodes past)
