-- EVENT_STATE and EVENT_DEPENDENCY: where an event was set.
use Rattle.std.specs.Prelude.{◌≡◌, ℕ, Bool, is_some, option_map}
use Rattle.std.specs.List.{find}
use Rattle.vk_model.specs.Trace.Point.{Past, Point, Action, on_command}
use Rattle.vk_model.specs.Rules.Synchronization.{set_by}
use Rattle.vk_model.specs.Trace.PointViews.{point_of}
use Rattle.vk_rules.specs.Synchronization as rules
use Rattle.vk_findings.specs.declared.events.EventState.{EventState}
use Rattle.vk_findings.specs.declared.events.EventDependency.{EventDependency}

-- Whether a point sets an event (Vulkan, "Events").
abbrev pub sets_event : ℕ → Point → Bool
sets_event v p = on_command (λ c. is_some (set_by v c)) p

-- What is reported of an action on a queue that breaks EVENT_STATE: what its rule finds, and the newest point that set its event, if one did.
pub record IsEventState (past : Past) (q : ℕ) (a : Action) (s : EventState) : Type 0 where
  pub found : rules.IsEventUse past q a (record { event = s.event; is_set = is_some s.set })
  pub set : option_map point_of s.set ≡ find (sets_event s.event) past

-- What is reported of an action that breaks EVENT_DEPENDENCY: what its rule finds, and the newest point that set the event, if one did.
pub record IsEventDependency (past : Past) (a : Action) (s : EventDependency) : Type 0 where
  pub found : rules.IsEventDependency past a (record { event = s.event; element = s.element })
  pub set : option_map point_of s.set ≡ find (sets_event s.event) past
