-- With what memory catches up as dependencies, waits and signals happen.
use Rattle.vk_model.specs.Trace.Point.{Past}
use Rattle.vk_model.specs.Sync.Node.{Node, nodes}
use Rattle.vk_cache_laws.specs.LateRuns.{Late, late_after_node}
use Rattle.vk_events.specs.declared.event.Event.{Event}
use Rattle.vk_events.specs.Happens.{IsEvent}
use Rattle.vk_resources.specs.Held.{Held}
use Rattle.vk_lag.specs.Lags.{Lags}
use Rattle.vk_availability.specs.AreLate.{AreLate}

-- As a node happens that has this event, memory catches up with what it makes available, and with nothing else (Vulkan, "Execution and Memory Dependencies", on availability operations).
abbrev pub Happens : Held → Lags → Lags → Event → Type 0
Happens s old new e = (past : Past) (n : Node) (late : Late) → IsEvent e (nodes past) n → AreLate s old late → AreLate s new (late_after_node past n late)
